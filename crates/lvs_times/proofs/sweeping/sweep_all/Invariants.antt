use Rattle.std.specs.List.{AllByRecursion}
use Rattle.lvs_times.specs.Numbered.{IsTimed}
use Rattle.lvs_times.proofs.sweeping.sweep_all.Given as goal

abbrev pub invariant-loop-now : goal.invariant-loop-now
invariant-loop-now l = AllByRecursion (IsTimed l.load) l.timers.timers
