use Rattle.lvs_well_formed.proofs.BucketLooks.{incoming_found, outgoing_found, learnt_found, swept_found}
use Rattle.lvs_well_formed.proofs.buckets.an_item_finds_all_in_its_bucket.Goals as goal

pub returns-clause-incoming : goal.returns-clause-incoming
returns-clause-incoming c = incoming_found

pub returns-clause-outgoing : goal.returns-clause-outgoing
returns-clause-outgoing c = outgoing_found

pub returns-clause-records : goal.returns-clause-records
returns-clause-records c = learnt_found

pub returns-clause-sweeps : goal.returns-clause-sweeps
returns-clause-sweeps c = swept_found
