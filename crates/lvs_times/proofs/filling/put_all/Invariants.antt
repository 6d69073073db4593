use Rattle.std.specs.List.{AllByRecursion}
use Rattle.lvs_times.specs.Numbered.{IsBelow}
use Rattle.lvs_times.proofs.filling.put_all.Given as goal

abbrev pub invariant-loop-number : goal.invariant-loop-number
invariant-loop-number l = AllByRecursion (IsBelow l.number) l.entries.entries
