use Rattle.std.proofs.Common.{◌≡◌}
use Rattle.lvs_book.proofs.tests.enter_hundred.Given as goal

abbrev pub invariant-loop-number : goal.invariant-loop-number
invariant-loop-number g l = (l.own.book ≡ l.fn.own.book) × (l.own.lane ≡ l.fn.own.lane)
