use Rattle.std.proofs.Common.{◌≡◌, ◌≤◌, ◌++◌, length}
use Rattle.std.specs.Vec.{vec_capacity}
use Rattle.lvs_timer.specs.DueLists.{AreOnce, in_order}
use Rattle.lvs_timer.proofs.fresh.settle.Given as goal

abbrev pub invariant-loop-timer : goal.invariant-loop-timer
invariant-loop-timer l = record {
  timers : in_order (l.due ++ l.fresh.items) ≡ in_order (l.fn.due ++ l.fn.fresh.items);
  once : AreOnce (l.due ++ l.fresh.items);
  few : length l.fresh.items ≤ length l.fn.fresh.items;
  capacity : vec_capacity l.fresh ≡ vec_capacity l.fn.fresh;
}

abbrev pub decreases-loop-timer : goal.decreases-loop-timer
decreases-loop-timer l = length l.fresh.items
