use Rattle.std.proofs.Common.{◌≡◌, ℕ, ◌-◌, List, ◌++◌, fold, replicate, count_by}
use Rattle.lvs_model.specs.MorePicks.{is_of, take_slot, takers}
use Rattle.lvs_sched_more.specs.Filling.{IsFilling}
use Rattle.lvs_sched_more.proofs.filling.Filling.turn.Given as goal

abbrev pub invariant-loop-left : goal.invariant-loop-left
invariant-loop-left l = record {
  filling : IsFilling l.self.free l.self.slots;
  taken : l.taken ≡ count_by (is_of l.place) l.self.slots;
  slots : (rest round : List ℕ) → fold (take_slot l.addrs) l.self.slots (takers l.self.free (replicate l.left l.place ++ rest) round) ≡ fold (take_slot l.addrs) l.initial.self.slots (takers l.initial.self.free (replicate l.slots_a_round l.place ++ rest) round);
  free : l.self.free - l.left ≡ l.initial.self.free - l.slots_a_round;
}

abbrev pub decreases-loop-left : goal.decreases-loop-left
decreases-loop-left l = l.left
