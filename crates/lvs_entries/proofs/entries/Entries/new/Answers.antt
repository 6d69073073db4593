use Rattle.lvs_entries.specs.Store.{place_in}
use Rattle.lvs_entries.proofs.Widened.{store_empty}
use Rattle.lvs_entries.proofs.entries.Entries.new.Goals as goal

pub invariant_of-result : goal.invariant_of-result
invariant_of-result c = store_empty c.in_ok-make_chains.field-0.items (place_in c.new.result) _ c.in_ok-make_chains.ensures
