use Rattle.std.proofs.Common.{Option, ap, sym, ◌∙◌}
use Rattle.lvs_types.specs.declared.dest.Dest.{Dest}
use Rattle.lvs_rules.specs.Packets.{packet_of}
use Rattle.lvs_rules.specs.TooLong.{exceeds_to}
use Rattle.lvs_rules.proofs.TooLong.{choice_told}
use Rattle.lvs_rules.proofs.too_long.exceeds_chosen.Goals as goal

pub returns-in-Some : goal.returns-in-Some
returns-in-Some g c =
    let p = packet_of c.args.p.now in
    rw c.in-Some.is (
    c.exceeds_at.ensures
    ∙ ap (λ (o : Option Dest). exceeds_to p.head o) c.nth_server.ensures.server
    ∙ sym (choice_told c.args.view.now (g.T.Tables.state c.args.tables.now) p c.args.service.now (c.in-Some.place, c.in-Some.field-0-1)))
