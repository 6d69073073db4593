use Rattle.lvs_well_formed.proofs.BucketSteps.{rising_step, rising_run}
use Rattle.lvs_well_formed.proofs.BucketLists.{rising_of}
use Rattle.lvs_well_formed.proofs.BucketLooks.{sorted_rising}
use Rattle.lvs_types.specs.declared.entry.Entry.{Entry}
use Rattle.std.proofs.Common.{[]}
use Rattle.lvs_well_formed.proofs.buckets.entries_stand_by_rising_id.Goals as goal

pub returns-clause-begins : goal.returns-clause-begins
returns-clause-begins c = λ local buckets. rising_run local buckets []

pub returns-clause-goes_on : goal.returns-clause-goes_on
returns-clause-goes_on c = rising_step

pub returns-clause-runs : goal.returns-clause-runs
returns-clause-runs c = rising_run

pub returns-clause-in_order : goal.returns-clause-in_order
returns-clause-in_order c = λ s rising. sorted_rising (λ (e : Entry). e.id) s.entries (rising_of s.entries rising)
