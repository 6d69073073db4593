use Rattle.std.proofs.Common.{ap, length, arith}
use Rattle.lvs_board.proofs.FirstGone.{none_left}
use Rattle.lvs_board.proofs.services.clear.Goals as goal

pub loop-preserved : goal.loop-preserved
loop-preserved c = omega (arith, c.remove_first.ensures, c.loop.invariant, c.loop-test.true, ap length c.list-end.ensures.services)

pub returns : goal.returns
returns c = none_left c.loop.services (omega (arith, c.loop.invariant, c.loop-test.false, ap length c.list-end.ensures.services))
