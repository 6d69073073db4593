use Rattle.std.proofs.Common.{drop}
use Rattle.lvs_model.specs.RoundRobin.{eligible_weights}
use Rattle.lvs_sched_turn.proofs.Divisors.{Covers}
use Rattle.lvs_sched_turn.proofs.divisor.weight_divisor.Given as goal

abbrev pub invariant-loop-server : goal.invariant-loop-server
invariant-loop-server l = Covers l.divisor (eligible_weights (drop l.server-index l.servers)) (eligible_weights l.servers)
