use Rattle.std.proofs.Common.{drop}
use Rattle.std.specs.List.{AllByRecursion}
use Rattle.lvs_times.specs.Numbered.{IsTimed}
use Rattle.lvs_times.proofs.Due.{IsRising, IsArmed}
use Rattle.lvs_times.proofs.sweeping.sweep.Given as goal

abbrev pub invariant-loop-id : goal.invariant-loop-id
invariant-loop-id l = record {
  timed : AllByRecursion (IsTimed l.load) l.timers.timers;
  rising : IsRising (drop l.id-index l.id-items);
  armed : AllByRecursion (IsArmed l.load l.timers.timers) (drop l.id-index l.id-items);
}
