use Rattle.std.proofs.Common.{◌≡◌, ◌++◌, drop}
use Rattle.lvs_dests.specs.Pool.{rows_of}
use Rattle.lvs_dests.specs.Serving.{rows_at}
use Rattle.lvs_dests.proofs.listing.append_each.Given as goal

-- those that are left still come
abbrev pub invariant-loop-candidate : goal.invariant-loop-candidate
invariant-loop-candidate l =
    l.rows.items ++ rows_at (rows_of l.pool) (drop l.candidate-index l.candidates) ≡ l.fn.rows.items ++ rows_at (rows_of l.pool) l.candidates
