use Rattle.std.proofs.Common.{◌≡◌, ◌++◌, drop, flat_map}
use Rattle.lvs_model.specs.Plans.{items_of_line}
use Rattle.lvs_script.proofs.items.items_of_lines.Given as goal

abbrev pub invariant-loop-line : goal.invariant-loop-line
invariant-loop-line l = l.items.items ++ flat_map items_of_line (drop l.line-index l.lines) ≡ flat_map items_of_line l.lines
