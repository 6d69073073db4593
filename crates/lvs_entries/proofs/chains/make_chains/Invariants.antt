use Rattle.lvs_entries.specs.Store.{AreEmpty}
use Rattle.lvs_entries.proofs.chains.make_chains.Given as goal

abbrev pub invariant-loop : goal.invariant-loop
invariant-loop l = AreEmpty l.counter l.chains.items
