use Rattle.std.proofs.Common.{◌≡◌, drop}
use Rattle.lvs_dests.specs.Pool.{rows_of}
use Rattle.lvs_dests.specs.Serving.{first_serving}
use Rattle.lvs_dests.proofs.serving.first_serving.Given as goal

abbrev pub invariant-loop-candidate : goal.invariant-loop-candidate
invariant-loop-candidate l =
    first_serving l.daddr l.dport l.vport (rows_of l.pool) (drop l.candidate-index l.candidates) ≡ first_serving l.daddr l.dport l.vport (rows_of l.pool) l.candidates
