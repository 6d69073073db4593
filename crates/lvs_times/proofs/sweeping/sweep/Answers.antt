use Rattle.std.proofs.Common.{arith}
use Rattle.lvs_times.proofs.Due.{rising_from, armed_all, rising_next, armed_next, timed_next}
use Rattle.lvs_times.proofs.sweeping.sweep.Goals as goal

pub loop-id-init : goal.loop-id-init
loop-id-init c = record {
  timed = c.requires.timed;
  rising = rw c.deref-id-items.ensures.value (rising_from _ c.in_ok-due.ensures.rising);
  armed = rw (c.deref-id-items.ensures.value, c.in_ok-due.ensures.ids) (armed_all c.args.load c.args.now c.args.timers.now.timers c.in_ok-due.ensures.listed c.requires.timed);
}

pub loop-id-preserved : goal.loop-id-preserved
loop-id-preserved c = record {
  timed = rw c.disarm.ensures.timers (timed_next c.args.load _ c.loop-id.timers.timers c.loop-id.invariant.timed);
  rising = rising_next c.loop-id.id-index c.deref-id-items.result.now (omega arith) c.loop-id.invariant.rising;
  armed = rw c.disarm.ensures.timers (armed_next c.args.load c.loop-id.id-index c.loop-id.timers.timers c.deref-id-items.result.now _ (omega arith) c.loop-id.invariant.rising c.loop-id.invariant.armed);
}
