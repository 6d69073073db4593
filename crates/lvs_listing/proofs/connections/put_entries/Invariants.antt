use Rattle.std.proofs.Common.{◌≡◌, ◌++◌, drop}
use Rattle.lvs_model.specs.Listings.{entry_lines}
use Rattle.lvs_listing.proofs.connections.put_entries.Given as goal

abbrev pub invariant-loop-entry : goal.invariant-loop-entry
invariant-loop-entry l = l.out.items ++ entry_lines l.now (drop l.entry-index l.entries) ≡ l.initial.out.items ++ entry_lines l.now l.entries
