use Rattle.std.proofs.Common.{◌≡◌, ℕ, ◌%◌, ◌<◌, Some, None, length, slice_index_or, sum_by}
use Rattle.lvs_model.specs.AddressHash.{share, owner_of}
use Rattle.lvs_sched_hash.specs.Sequence.{IsElement}
use Rattle.lvs_sched_hash.proofs.table.shares.Given as goal

abbrev pub invariant-loop-slot : goal.invariant-loop-slot
invariant-loop-slot l = record {
  number : length l.slot-items ≡ 256;
  filled : (j : ℕ) → j < l.slot-index → slice_index_or l.slot-items j None ≡ Some (owner_of (j % sum_by share l.servers) l.servers);
  element : IsElement l.servers (l.slot-index % sum_by share l.servers) l.element.place l.element.left;
}
