use Rattle.std.proofs.Common.{◌≡◌, ◌+◌, ◌++◌, drop}
use Rattle.std.specs.List.{filter}
use Rattle.lvs_timer.specs.Timers.{is_due, ids_of}
use Rattle.lvs_timer.proofs.fresh.list_fresh.Given as goal

abbrev pub invariant-loop-timer : goal.invariant-loop-timer
invariant-loop-timer g l = record {
  so_far : l.ids.items ++ ids_of (filter (is_due l.now) (drop l.timer-index l.fresh)) ≡ l.initial.ids.items ++ ids_of (filter (is_due l.now) l.fresh);
  counted : l.steps ≡ l.initial.steps + l.timer-index;
}
