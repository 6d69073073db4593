use Rattle.lvs_sched_load.specs.Best.{IsBest}
use Rattle.lvs_sched_load.specs.Orders.{is_better}
use Rattle.lvs_sched_load.proofs.first_best.first_best.Given as goal

abbrev pub invariant-loop-place : goal.invariant-loop-place
invariant-loop-place l = IsBest (is_better l.order) l.servers l.place l.best
