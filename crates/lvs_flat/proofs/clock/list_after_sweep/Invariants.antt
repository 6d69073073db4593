use Rattle.std.proofs.Common.{◌≡◌, ◌++◌, drop, map}
use Rattle.lvs_model.specs.Lists.{without}
use Rattle.lvs_model.specs.Clock.{is_swept, after_ends}
use Rattle.lvs_flat.specs.Lists.{state_of}
use Rattle.lvs_flat.proofs.clock.list_after_sweep.Given as goal

abbrev pub invariant-loop-d : goal.invariant-loop-d
invariant-loop-d l =
    let f = after_ends l.due (without (is_swept (state_of l.lists) l.bucket) l.lists.entries.items) in
    l.dests.items ++ map f (drop l.d-index l.lists.dests.items) ≡ map f l.lists.dests.items
