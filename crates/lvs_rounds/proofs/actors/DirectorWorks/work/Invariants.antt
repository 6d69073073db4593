use Rattle.std.proofs.Common.{◌≡◌}
use Rattle.lvs_rounds.proofs.actors.DirectorWorks.work.Given as goal

abbrev pub invariant-loop : goal.invariant-loop
invariant-loop g l = l.seat.actor ≡ l.fn.seat.actor
