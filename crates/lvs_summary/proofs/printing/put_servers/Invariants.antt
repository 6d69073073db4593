use Rattle.std.proofs.Common.{◌≡◌, ◌++◌, drop}
use Rattle.lvs_model.specs.Summaries.{counts_lines}
use Rattle.lvs_summary.proofs.printing.put_servers.Given as goal

abbrev pub invariant-loop-row : goal.invariant-loop-row
invariant-loop-row l = l.out.items ++ counts_lines (drop l.row-index l.rows) ≡ l.initial.out.items ++ counts_lines l.rows
