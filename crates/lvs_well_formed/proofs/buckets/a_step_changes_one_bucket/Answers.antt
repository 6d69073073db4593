use Rattle.lvs_well_formed.proofs.BucketSteps.{others_stay}
use Rattle.lvs_well_formed.proofs.buckets.a_step_changes_one_bucket.Goals as goal

pub returns : goal.returns
returns c = others_stay
