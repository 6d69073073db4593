use Rattle.std.specs.VecDeque.{deque_len}
use Rattle.lvs_pair.specs.Pairing.{items_of}
use Rattle.lvs_pair.proofs.Follows.{StillLearns}
use Rattle.lvs_pair.proofs.backup.Backup.learn_waiting.Given as goal

abbrev pub invariant-loop-message : goal.invariant-loop-message
invariant-loop-message l = StillLearns l.fn.self (items_of l.fn.waiting.items) l.self (items_of l.waiting.items)

abbrev pub decreases-loop-message : goal.decreases-loop-message
decreases-loop-message l = deque_len l.waiting
