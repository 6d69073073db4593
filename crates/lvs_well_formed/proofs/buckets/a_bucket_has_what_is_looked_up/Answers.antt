use Rattle.lvs_well_formed.proofs.BucketLooks.{keyed_inside, answered_inside, due_inside}
use Rattle.lvs_well_formed.proofs.buckets.a_bucket_has_what_is_looked_up.Goals as goal

pub returns-clause-keyed : goal.returns-clause-keyed
returns-clause-keyed c = keyed_inside

pub returns-clause-answered : goal.returns-clause-answered
returns-clause-answered c = answered_inside

pub returns-clause-due : goal.returns-clause-due
returns-clause-due c = due_inside
