use Rattle.std.proofs.Common.{◌≡◌, take, filter_map}
use Rattle.lvs_dests.specs.Pool.{trashed_row_in}
use Rattle.lvs_dests.proofs.pool.Pool.collect_trashed.Given as goal

abbrev pub invariant-loop-key : goal.invariant-loop-key
invariant-loop-key l = l.rows.items ≡ filter_map trashed_row_in (take l.key l.self.slab.slots)
