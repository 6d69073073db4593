use Rattle.std.specs.Prelude.{◌≤◌, ◌+◌, length}
use Rattle.lvs_board.proofs.services.clear.Given as goal

-- at least as many have left as were counted
abbrev pub invariant-loop : goal.invariant-loop
invariant-loop l = length l.services + l.counter ≤ length l.fn.services
