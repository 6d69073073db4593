use Rattle.std.proofs.Common.{◌≡◌, ◌++◌, drop, map}
use Rattle.lvs_tidy.specs.ScriptTexts.{line_text, with_feeds}
use Rattle.lvs_tidy.proofs.printing.put_lines.Given as goal

abbrev pub invariant-loop-line : goal.invariant-loop-line
invariant-loop-line l = l.out.items ++ with_feeds (map line_text (drop l.line-index l.lines)) ≡ l.initial.out.items ++ with_feeds (map line_text l.lines)
