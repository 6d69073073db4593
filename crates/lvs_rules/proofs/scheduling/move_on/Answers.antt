use Rattle.std.proofs.Common.{ap, ◌∙◌}
use Rattle.lvs_model.specs.State.{State}
use Rattle.lvs_model.specs.Scheduling.{take_pick}
use Rattle.lvs_rules.specs.Packets.{packet_of}
use Rattle.lvs_rules.proofs.scheduling.move_on.Goals as goal

pub returns-clause-next : goal.returns-clause-next
returns-clause-next g c =
    c.take_pick.ensures.next ∙ ap (λ (s : State). take_pick s (packet_of c.args.p.now) c.args.service.now c.args.d.now c.args.service.now.persist) c.set_cursor.ensures.state
