use Rattle.lvs_well_formed.proofs.Parts.{parts_of}
use Rattle.lvs_well_formed.proofs.BucketSteps.{step_base}
use Rattle.lvs_well_formed.proofs.buckets.steps_keep_buckets_and_the_moment.Goals as goal

pub returns-clause-buckets : goal.returns-clause-buckets
returns-clause-buckets c = λ s next well. (step_base s next (parts_of s well)).1

pub returns-clause-moment : goal.returns-clause-moment
returns-clause-moment c = λ s next well. (step_base s next (parts_of s well)).0
