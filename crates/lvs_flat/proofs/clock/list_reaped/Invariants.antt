use Rattle.std.proofs.Common.{◌≡◌, ◌++◌, drop}
use Rattle.std.specs.List.{filter_map}
use Rattle.lvs_model.specs.Clock.{reaped_template}
use Rattle.lvs_flat.specs.Lists.{state_of}
use Rattle.lvs_flat.proofs.clock.list_reaped.Given as goal

abbrev pub invariant-loop-t : goal.invariant-loop-t
invariant-loop-t l =
    l.templates.items ++ filter_map (reaped_template (state_of l.lists)) (drop l.t-index l.lists.templates.items) ≡ filter_map (reaped_template (state_of l.lists)) l.lists.templates.items
