use Rattle.std.proofs.Common.{◌≡◌, ◌++◌, drop}
use Rattle.lvs_tidy.specs.ScriptTexts.{rounds_lines, with_feeds}
use Rattle.lvs_tidy.proofs.printing.put_rounds.Given as goal

abbrev pub invariant-loop-round : goal.invariant-loop-round
invariant-loop-round l = record {
  written : l.out.items ++ with_feeds (rounds_lines l.number (drop l.round-index l.rounds)) ≡ l.initial.out.items ++ with_feeds (rounds_lines 0 l.rounds);
  counted : l.number ≡ l.round-index;
}
