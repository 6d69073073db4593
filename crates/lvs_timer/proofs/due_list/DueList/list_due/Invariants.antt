use Rattle.std.proofs.Common.{◌≡◌, ◌<◌, ◌+◌, ◌^◌, ◌++◌, length, count_by}
use Rattle.std.specs.List.{filter}
use Rattle.std.specs.List.Sorted.{IsStrictlySortedBy}
use Rattle.lvs_timer.specs.Timers.{is_due, ids_of}
use Rattle.lvs_timer.proofs.ByDeadline.{timer_cmp}
use Rattle.lvs_timer.proofs.due_list.DueList.list_due.Given as goal

abbrev pub invariant-loop-timer : goal.invariant-loop-timer
invariant-loop-timer g l = record {
  can : (goal.iterator-loop-timer g).can_next l.timer-iterator;
  finite : (goal.iterator-loop-timer g).is_finite l.timer-iterator;
  order : IsStrictlySortedBy timer_cmp l.timer-iterator;
  so_far : l.ids.items ++ ids_of (filter (is_due l.now) l.timer-iterator) ≡ l.initial.ids.items ++ ids_of (filter (is_due l.now) l.self);
  counted : l.steps + count_by (is_due l.now) l.timer-iterator ≡ l.initial.steps + count_by (is_due l.now) l.self;
  bounded : l.steps + length l.timer-iterator < 2 ^ 62 + 2 ^ 63;
}
