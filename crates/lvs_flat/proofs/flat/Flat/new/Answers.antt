use Rattle.lvs_model.proofs.CountedLemmas.{counted_initial}
use Rattle.lvs_well_formed.proofs.Steps.{initial_well_formed}
use Rattle.lvs_flat.proofs.flat.Flat.new.Goals as goal

pub invariant_of-result : goal.invariant_of-result
invariant_of-result c = rw c.empty.ensures (counted_initial c.args.local c.args.buckets c.requires.some, initial_well_formed c.args.local c.args.buckets)
