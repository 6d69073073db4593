use Rattle.std.proofs.Common.{◌≡◌, [], fold}
use Rattle.lvs_model.specs.MorePicks.{take_slot, takers, round_from}
use Rattle.lvs_sched_more.specs.Filling.{IsFilling}
use Rattle.lvs_sched_more.proofs.filling.Filling.fill.Given as goal

abbrev pub invariant-loop-self : goal.invariant-loop-self
invariant-loop-self l = record {
  filling : IsFilling l.self.free l.self.slots;
  slots : fold (take_slot l.addrs) l.self.slots (takers l.self.free [] (round_from l.total 0 l.servers)) ≡ fold (take_slot l.addrs) l.initial.self.slots (takers l.initial.self.free [] (round_from l.total 0 l.servers));
}

abbrev pub decreases-loop-self : goal.decreases-loop-self
decreases-loop-self l = l.self.free
