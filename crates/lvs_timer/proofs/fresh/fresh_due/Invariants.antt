use Rattle.std.proofs.Common.{◌≡◌, drop}
use Rattle.std.specs.List.{find}
use Rattle.lvs_timer.specs.Timers.{is_due}
use Rattle.lvs_timer.proofs.fresh.fresh_due.Given as goal

abbrev pub invariant-loop-timer : goal.invariant-loop-timer
invariant-loop-timer l = find (is_due l.now) (drop l.timer-index l.fresh) ≡ find (is_due l.now) l.fresh
