use Rattle.std.proofs.Common.{◌≡◌, length}
use Rattle.lvs_model.specs.Lists.{without}
use Rattle.lvs_model.specs.Buckets.{is_due_entry}
use Rattle.lvs_bucket.specs.Pairs.{IsPair}
use Rattle.lvs_bucket.proofs.changes.end_due.Given as goal

abbrev pub invariant-loop-timer : goal.invariant-loop-timer
invariant-loop-timer l = record {
  pair : IsPair l.entries.entries l.timers.timers;
  left : without (is_due_entry l.moment) l.entries.entries ≡ without (is_due_entry l.moment) l.fn.entries.entries;
}

abbrev pub decreases-loop-timer : goal.decreases-loop-timer
decreases-loop-timer l = length l.entries.entries
