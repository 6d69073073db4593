use Rattle.std.proofs.Common.{drop}
use Rattle.lvs_shared.specs.Seats.{AreAtEnd}
use Rattle.lvs_rounds.proofs.actors.are_at_end.Given as goal

abbrev pub invariant-loop-seat : goal.invariant-loop-seat
invariant-loop-seat g l = AreAtEnd (drop l.seat-index l.seats) → AreAtEnd l.seats
