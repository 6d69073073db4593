use Rattle.std.proofs.Common.{◌≡◌, ◌≤◌, ◌+◌, drop}
use Rattle.lvs_model.specs.Lookups.{entry_at}
use Rattle.lvs_entries.proofs.chain.first_of_key.Given as goal

abbrev pub invariant-loop-e : goal.invariant-loop-e
invariant-loop-e g l = record {
  counted : l.steps ≤ l.initial.steps + l.e-index;
  grows : l.initial.steps ≤ l.steps;
  left : entry_at l.key (drop l.e-index l.entries) ≡ entry_at l.key l.entries;
}
