use Rattle.std.proofs.Common.{◌≡◌, ◌++◌, drop}
use Rattle.std.specs.List.{filter}
use Rattle.lvs_model.specs.Clock.{is_swept}
use Rattle.lvs_flat.specs.Lists.{state_of}
use Rattle.lvs_flat.proofs.clock.list_due.Given as goal

abbrev pub invariant-loop-e : goal.invariant-loop-e
invariant-loop-e l =
    l.due.items ++ filter (is_swept (state_of l.lists) l.bucket) (drop l.e-index l.lists.entries.items) ≡ filter (is_swept (state_of l.lists) l.bucket) l.lists.entries.items
