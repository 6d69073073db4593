use Rattle.std.proofs.Common.{◌≡◌, ◌≤◌, ◌+◌, vec_len, vec_capacity}
use Rattle.lvs_shared.proofs.closing.locked.Given as goal

abbrev pub invariant-loop-chamber : goal.invariant-loop-chamber
invariant-loop-chamber g l = record {
  len : vec_len l.locks + vec_len l.chambers ≡ vec_len l.fn.chambers;
  room : vec_len l.fn.chambers ≤ vec_capacity l.locks;
}

abbrev pub decreases-loop-chamber : goal.decreases-loop-chamber
decreases-loop-chamber g l = vec_len l.chambers
