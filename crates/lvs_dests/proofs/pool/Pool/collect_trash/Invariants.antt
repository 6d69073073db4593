use Rattle.std.proofs.Common.{◌≡◌, take}
use Rattle.lvs_dests.specs.Pool.{trashed_of}
use Rattle.lvs_dests.proofs.pool.Pool.collect_trash.Given as goal

abbrev pub invariant-loop-key : goal.invariant-loop-key
invariant-loop-key l = l.ids.items ≡ trashed_of (take l.key l.self.slab.slots)
