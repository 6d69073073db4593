use Rattle.std.proofs.Common.{◌≡◌, ◌++◌, drop}
use Rattle.std.specs.List.{filter_map}
use Rattle.lvs_model.specs.Plans.{shown_by}
use Rattle.lvs_run.specs.Listings.{all_shown_in}
use Rattle.lvs_run.proofs.listings.show_lines.Given as goal

abbrev pub invariant-loop-line : goal.invariant-loop-line
invariant-loop-line l = l.all.items ++ all_shown_in l.tables (filter_map shown_by (drop l.line-index l.lines)) ≡ all_shown_in l.tables (filter_map shown_by l.lines)
