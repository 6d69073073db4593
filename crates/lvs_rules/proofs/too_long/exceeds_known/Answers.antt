use Rattle.std.proofs.Common.{rules, ◌≡◌, ap, sym, ◌∙◌}
use Rattle.lvs_model.specs.declared.incoming.Standing.{Standing}
use Rattle.lvs_model.specs.declared.incoming.Standing.TheVariants as standings
use Rattle.lvs_model.specs.Rewriting.{is_too_long}
use Rattle.lvs_rules.specs.declared.view.View.{View}
use Rattle.lvs_rules.specs.Packets.{packet_of}
use Rattle.lvs_rules.specs.Views.{seen_in}
use Rattle.lvs_rules.specs.TooLong.{exceeds_connection, exceeds_by, view_after}
use Rattle.lvs_model.specs.Incoming.{standing_of}
use Rattle.lvs_rules.proofs.too_long.exceeds_known.Goals as goal

pub returns-in-Reused : goal.returns-in-Reused
returns-in-Reused g c =
    let s = g.T.Tables.state c.args.tables.now in
    let p = packet_of c.args.p.now in
    let b = c.args.b.now in
    let anew = exceeds_connection (seen_in (view_after s b.found b.server) s) p in
    let standing : standing_of s.settings p b.entry b.server ≡ standings.Reused = search rules in
    c.exceeds_connected.ensures
    ∙ ap (λ (v : View). exceeds_connection (seen_in v s) p) c.without_entry-view.ensures
    ∙ sym (ap (λ (st : Standing). exceeds_by st anew (is_too_long p.head b.entry.method)) standing)
