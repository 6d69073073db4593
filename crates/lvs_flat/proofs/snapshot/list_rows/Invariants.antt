use Rattle.std.proofs.Common.{◌≡◌, ◌++◌, drop, map}
use Rattle.lvs_model.specs.Counts.{row_of}
use Rattle.lvs_flat.proofs.snapshot.list_rows.Given as goal

abbrev pub invariant-loop-d : goal.invariant-loop-d
invariant-loop-d l = l.rows.items ++ map (row_of l.entries l.templates) (drop l.d-index l.dests) ≡ map (row_of l.entries l.templates) l.dests
