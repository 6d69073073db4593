use Rattle.std.proofs.Common.{◌<◌}
use Rattle.std.specs.List.{AllByRecursion}
use Rattle.lvs_timer.specs.declared.timer.Timer.{Timer}
use Rattle.lvs_times.specs.Numbered.{IsTimed}
use Rattle.lvs_times.proofs.filling.arm_all.Given as goal

abbrev pub invariant-loop-number : goal.invariant-loop-number
invariant-loop-number l = record {
  below : AllByRecursion (λ (t : Timer). t.id < l.number) l.timers.timers;
  timed : AllByRecursion (IsTimed l.load) l.timers.timers;
}
