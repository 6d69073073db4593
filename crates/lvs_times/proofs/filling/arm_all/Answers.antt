use Rattle.std.proofs.Common.{rules}
use Rattle.lvs_times.proofs.Fresh.{new_timer, timers_below, timers_timed}
use Rattle.lvs_times.proofs.filling.arm_all.Goals as goal

pub arm-requires-clause-new_id : goal.arm-requires-clause-new_id
arm-requires-clause-new_id c = rw (c.from-id.ensures, c.in_ok-reserve.ensures.timers) (new_timer c.loop-number.number c.loop-number.timers.timers c.loop-number.invariant.below)

pub loop-number-preserved : goal.loop-number-preserved
loop-number-preserved c = record {
  below = rw (c.arm.ensures.timers, c.from-id.ensures, c.in_ok-reserve.ensures.timers) (timers_below c.loop-number.number c.deadline_of.result c.loop-number.timers.timers c.loop-number.invariant.below);
  timed =
      rw (c.arm.ensures.timers, c.from-id.ensures, c.in_ok-reserve.ensures.timers)
      (timers_timed c.args.load c.loop-number.number c.deadline_of.result c.loop-number.timers.timers (search rules) (rw c.from-id.ensures at c.deadline_of.ensures) c.loop-number.invariant.timed);
}
