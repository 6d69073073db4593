use Rattle.lvs_board.proofs.board.Board.new.Goals as goal
use Rattle.lvs_board.specs.Desks.{seen_of}
use Rattle.lvs_board.proofs.Begins.{begins}

-- src/board.rt:39:5
pub returns-clause-stands : goal.returns-clause-stands
returns-clause-stands c = begins c.new.result.items c.args.local (seen_of c.in_ok-empty.field-0) c.in_ok-empty.ensures
