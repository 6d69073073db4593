use Rattle.std.proofs.Common.{◌≡◌, ◌++◌}
use Rattle.std.specs.VecDeque.{deque_len}
use Rattle.lvs_pair.proofs.outbox.post_waiting.Given as goal

abbrev pub invariant-loop-message : goal.invariant-loop-message
invariant-loop-message g l = record {
  relay : l.sender.relay ≡ l.fn.sender.relay;
  order : l.sender.posted ++ l.waiting.items ≡ l.fn.sender.posted ++ l.fn.waiting.items;
}

abbrev pub decreases-loop-message : goal.decreases-loop-message
decreases-loop-message g l = deque_len l.waiting
