use Rattle.std.proofs.Common.{◌≡◌, ◌≤◌, ◌+◌, length, vec_len, vec_capacity}
use Rattle.lvs_book.specs.Passes.{opened}
use Rattle.lvs_core.specs.Agree.{AreBuckets}
use Rattle.lvs_shared.specs.Openings.{begun}
use Rattle.lvs_shared.proofs.beginning.shut.Given as goal

abbrev pub invariant-loop-bucket : goal.invariant-loop-bucket
invariant-loop-bucket g l = record {
  buckets : AreBuckets (begun g.N.RoundName.book.origin) 0 l.buckets.items;
  count : length l.buckets.items ≤ (begun g.N.RoundName.book.origin).buckets;
  passes : l.passes.items ≡ opened g.N.RoundName.book.id g.N.RoundName.book.origin 0 (length l.buckets.items);
  len : vec_len l.locks + vec_len l.buckets ≡ vec_len l.fn.buckets;
  room : vec_len l.fn.buckets ≤ vec_capacity l.locks;
}

abbrev pub decreases-loop-bucket : goal.decreases-loop-bucket
decreases-loop-bucket g l = vec_len l.buckets
