use Rattle.std.proofs.Common.{◌≡◌, max, drop}
use Rattle.lvs_model.specs.RoundRobin.{eligible_weights, greatest}
use Rattle.lvs_sched_turn.proofs.greatest.greatest_weight.Given as goal

abbrev pub invariant-loop-server : goal.invariant-loop-server
invariant-loop-server l = max l.weight (greatest (eligible_weights (drop l.server-index l.servers))) ≡ greatest (eligible_weights l.servers)
