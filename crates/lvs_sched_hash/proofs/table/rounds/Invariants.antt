use Rattle.std.proofs.Common.{◌≡◌, ℕ, ◌%◌, ◌<◌, Some, None, length, slice_index_or}
use Rattle.lvs_sched_hash.proofs.table.rounds.Given as goal

abbrev pub invariant-loop-k : goal.invariant-loop-k
invariant-loop-k l = record {
  number : length l.slot-items ≡ 256;
  filled : (j : ℕ) → j < l.k → slice_index_or l.slot-items j None ≡ Some (j % l.servers);
}
