use Rattle.std.proofs.Common.{◌≡◌, ◌≤◌, drop}
use Rattle.lvs_model.specs.Decimals.{value_after}
use Rattle.lvs_report.proofs.numbers.value_within.Given as goal

abbrev pub invariant-loop-digit : goal.invariant-loop-digit
invariant-loop-digit l = record {
  so_far : value_after l.number (drop l.digit-index l.word) ≡ value_after 0 l.word;
  small : l.number ≤ l.limit;
}
