use Rattle.std.proofs.Common.{◌≡◌, ◌++◌, drop}
use Rattle.lvs_model.specs.Lists.{without}
use Rattle.lvs_model.specs.Clock.{is_released}
use Rattle.lvs_flat.proofs.clock.list_kept.Given as goal

abbrev pub invariant-loop-d : goal.invariant-loop-d
invariant-loop-d l =
    l.kept.items ++ without (is_released l.entries l.templates) (drop l.d-index l.dests) ≡ without (is_released l.entries l.templates) l.dests
