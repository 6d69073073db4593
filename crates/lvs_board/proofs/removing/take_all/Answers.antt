use Rattle.std.proofs.Common.{List, ap, length, arith}
use Rattle.lvs_types.specs.declared.dest.Candidate.{Candidate}
use Rattle.lvs_board.proofs.Left.{each_left}
use Rattle.lvs_board.proofs.removing.take_all.Goals as goal

pub returns-clause-left : goal.returns-clause-left
returns-clause-left c =
    each_left c.args.key.now c.args.dests.now c.loop.dests (omega (arith, c.loop.invariant.fewer, c.loop-test.false, ap (λ (cs : List Candidate). length cs) c.candidates-many.ensures.candidates)) c.loop.invariant.same c.loop.invariant.next
