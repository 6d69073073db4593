use Rattle.lvs_dests.proofs.Cleared.{IsLeaving}
use Rattle.lvs_dests.proofs.pool.Pool.leave_all.Given as goal

abbrev pub invariant-loop-key : goal.invariant-loop-key
invariant-loop-key l = IsLeaving l.fn.self l.self l.key
