use Rattle.std.proofs.Common.{◌≡◌, drop}
use Rattle.lvs_model.specs.Lookups.{entry_at}
use Rattle.lvs_flat.proofs.entries.find_key.Given as goal

abbrev pub invariant-loop-e : goal.invariant-loop-e
invariant-loop-e l = entry_at l.key (drop l.e-index l.entries) ≡ entry_at l.key l.entries
