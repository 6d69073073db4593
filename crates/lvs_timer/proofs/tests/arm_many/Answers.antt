use Rattle.lvs_timer.proofs.Below.{below_new, below_next}
use Rattle.lvs_timer.proofs.tests.arm_many.Goals as goal

pub arm-requires : goal.arm-requires
arm-requires c = record {
  room = c.in_ok-reserve.ensures.ok;
  new_id = rw c.in_ok-reserve.ensures.timers (below_new c.loop-id.id c.loop-id.timers.timers c.loop-id.invariant);
}

pub loop-id-preserved : goal.loop-id-preserved
loop-id-preserved c = rw (c.arm.ensures.timers, c.in_ok-reserve.ensures.timers) (below_next c.loop-id.id c.deadline_of.result c.loop-id.timers.timers c.loop-id.invariant)
