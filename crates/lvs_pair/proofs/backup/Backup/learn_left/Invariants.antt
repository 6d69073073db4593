use Rattle.std.proofs.Common.{◌≡◌, length}
use Rattle.lvs_pair.specs.Pairing.{items_of}
use Rattle.lvs_pair.proofs.Follows.{StillLearns}
use Rattle.lvs_pair.proofs.backup.Backup.learn_left.Given as goal

abbrev pub invariant-loop-message : goal.invariant-loop-message
invariant-loop-message g l = record {
  relay : l.rest.relay ≡ l.fn.rest.relay;
  capacity : l.rest.capacity ≡ l.fn.rest.capacity;
  posted : l.rest.posted ≡ l.fn.rest.posted;
  learns : StillLearns l.fn.self (items_of l.fn.rest.left) l.self (items_of l.rest.left);
}

abbrev pub decreases-loop-message : goal.decreases-loop-message
decreases-loop-message g l = length l.rest.left
