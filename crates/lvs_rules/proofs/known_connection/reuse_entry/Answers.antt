use Rattle.std.proofs.Common.{ap, ◌∙◌}
use Rattle.lvs_model.specs.State.{State}
use Rattle.lvs_model.specs.Scheduling.{connect}
use Rattle.lvs_rules.specs.Packets.{packet_of}
use Rattle.lvs_rules.proofs.known_connection.reuse_entry.Goals as goal

pub returns-clause-next : goal.returns-clause-next
returns-clause-next g c = c.begin_connection.ensures.next ∙ ap (λ (s : State). connect s (packet_of c.args.p.now)) c.end_entry.ensures.ended
