use Rattle.std.proofs.Common.{◌≡◌, drop}
use Rattle.lvs_shared.specs.Rounds.{AreFrom}
use Rattle.lvs_shared.proofs.closing.are_in_order.Given as goal

abbrev pub invariant-loop-chamber : goal.invariant-loop-chamber
invariant-loop-chamber g l = record {
  next : l.next ≡ l.chamber-index;
  rest : AreFrom l.next (drop l.chamber-index l.chambers) → AreFrom 0 l.chambers;
}
