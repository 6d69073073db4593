use Rattle.lvs_dests.proofs.Reaped.{IsReaping}
use Rattle.lvs_dests.proofs.pool.Pool.reap.Given as goal

abbrev pub invariant-loop-key : goal.invariant-loop-key
invariant-loop-key l = IsReaping l.fn.self l.self l.gone l.key l.key-end
