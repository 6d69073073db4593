use Rattle.std.proofs.Common.{ℕ, Option, List, ap, ◌∙◌}
use Rattle.lvs_types.specs.declared.dest.Dest.{Dest}
use Rattle.lvs_types.specs.declared.service.Cursor.{Cursor}
use Rattle.lvs_model.specs.Scheduling.{picked}
use Rattle.lvs_rules.specs.Packets.{packet_of}
use Rattle.lvs_rules.specs.TooLong.{choice_in}
use Rattle.lvs_rules.proofs.Leaving.{as_they_are}
use Rattle.lvs_rules.proofs.scheduling.schedule.Goals as goal

pub returns-clause-next : goal.returns-clause-next
returns-clause-next g c =
    let s = g.T.Tables.state c.args.tables.now in
    let p = packet_of c.args.p.now in
    let service = c.args.service.now in
    c.take_choice.ensures.next
    ∙ ap (λ (o : Option (ℕ × Cursor)). picked s p service o) (c.choose-choice.ensures ∙ ap (λ (ds : List Dest). choice_in (record s { dests = ds }) p service) (as_they_are s.dests))
