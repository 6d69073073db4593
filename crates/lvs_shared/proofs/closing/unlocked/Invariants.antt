use Rattle.std.proofs.Common.{◌≡◌, ◌≤◌, ◌+◌, vec_len, vec_capacity}
use Rattle.lvs_shared.proofs.closing.unlocked.Given as goal

abbrev pub invariant-loop-lock : goal.invariant-loop-lock
invariant-loop-lock g l = record {
  len : vec_len l.chambers + vec_len l.locks ≡ vec_len l.initial.locks;
  room : vec_len l.initial.locks ≤ vec_capacity l.chambers;
  same : vec_capacity l.locks ≡ vec_capacity l.initial.locks;
  most : vec_len l.initial.locks ≤ vec_capacity l.initial.locks;
}

abbrev pub decreases-loop-lock : goal.decreases-loop-lock
decreases-loop-lock g l = vec_len l.locks
