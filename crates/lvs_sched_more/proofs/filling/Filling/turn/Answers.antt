use Rattle.std.proofs.Common.{arith, ◌∙◌, ◌-◌, sym}
use Rattle.lvs_model.specs.MorePicks.{take_slot}
use Rattle.lvs_sched_more.proofs.Rounds.{take_step}
use Rattle.lvs_sched_more.proofs.filling.Filling.turn.Goals as goal

pub loop-left-preserved : goal.loop-left-preserved
loop-left-preserved c = record {
  filling = c.take.ensures.filling;
  taken = sym c.take.ensures.taken;
  slots = λ rest round. rw c.take.ensures.slots (sym (take_step (take_slot c.args.addrs.now) c.loop-left.self.slots c.args.place c.loop-left.left (c.loop-left.left - 1) c.loop-left.self.free c.take.new.self.free rest round (omega arith) (sym c.take.ensures.free)) ∙ c.loop-left.invariant.slots rest round);
  free = omega (arith, c.take.ensures.free, c.loop-left.invariant.free);
}
