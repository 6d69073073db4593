use Rattle.std.proofs.Common.{◌≡◌, take}
use Rattle.std.specs.List.{filter}
use Rattle.lvs_model.specs.Buckets.{is_due_entry}
use Rattle.lvs_bucket.proofs.looking.list_due.Given as goal

abbrev pub invariant-loop-id : goal.invariant-loop-id
invariant-loop-id l = l.due.items ≡ take l.id-index (filter (is_due_entry l.now) l.entries.entries)
