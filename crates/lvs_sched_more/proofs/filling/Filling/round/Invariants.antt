use Rattle.std.proofs.Common.{◌≡◌, ℕ, ◌-◌, List, fold, drop, sum_by}
use Rattle.lvs_model.specs.MorePicks.{take_slot, takers, round_from, slots_a_round}
use Rattle.lvs_sched_more.specs.Filling.{IsFilling}
use Rattle.lvs_sched_more.proofs.filling.Filling.round.Given as goal

abbrev pub invariant-loop-place : goal.invariant-loop-place
invariant-loop-place l = record {
  filling : IsFilling l.self.free l.self.slots;
  slots : (round : List ℕ) → fold (take_slot l.addrs) l.self.slots (takers l.self.free (round_from l.total l.place (drop l.place l.servers)) round) ≡ fold (take_slot l.addrs) l.initial.self.slots (takers l.initial.self.free (round_from l.total 0 l.servers) round);
  free : l.self.free - sum_by (slots_a_round l.total) (drop l.place l.servers) ≡ l.initial.self.free - sum_by (slots_a_round l.total) l.servers;
}
