use Rattle.std.proofs.Common.{Option, ap, sym, ◌∙◌}
use Rattle.lvs_types.specs.declared.dest.Dest.{Dest}
use Rattle.lvs_types.specs.declared.template.Template.{Template}
use Rattle.lvs_model.specs.Persistence.{usable_server}
use Rattle.lvs_rules.specs.Packets.{packet_of}
use Rattle.lvs_rules.specs.Views.{seen_in}
use Rattle.lvs_rules.specs.TooLong.{exceeds_pick, exceeds_used}
use Rattle.lvs_rules.proofs.TooLong.{template_told}
use Rattle.lvs_rules.proofs.too_long.exceeds_by_template.Goals as goal

pub returns : goal.returns
returns g c =
    let s = g.T.Tables.state c.args.tables.now in
    let p = packet_of c.args.p.now in
    let service = c.args.service.now in
    let picked = exceeds_pick (seen_in c.args.view.now s) p service in
    c.exceeds_usable.ensures
    ∙ ap (λ (o : Option Dest). exceeds_used picked p.head o) c.find_usable-server.ensures.server
    ∙ ap (λ (t : Template). exceeds_used picked p.head (usable_server s.settings s.dests t.server)) c.tried-t.ensures.tried
    ∙ sym (template_told c.args.view.now s p service c.args.t)
