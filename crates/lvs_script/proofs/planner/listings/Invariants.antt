use Rattle.std.proofs.Common.{◌≡◌, ◌++◌, drop}
use Rattle.std.specs.List.{filter_map}
use Rattle.lvs_model.specs.Plans.{shown_by}
use Rattle.lvs_script.proofs.planner.listings.Given as goal

abbrev pub invariant-loop-line : goal.invariant-loop-line
invariant-loop-line l = l.listings.items ++ filter_map shown_by (drop l.line-index l.lines) ≡ filter_map shown_by l.lines
