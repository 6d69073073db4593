use Rattle.std.proofs.Common.{◌∙◌, ap}
use Rattle.lvs_board.specs.Seen.{BoardSeen}
use Rattle.lvs_board.specs.Shown.{shown_of}
use Rattle.lvs_board.proofs.Shown.{ok_then, shown_is}
use Rattle.lvs_board.proofs.board.Board.tables.Goals as goal

pub returns : goal.returns
returns c =
    ok_then _ _ (λ shown is s stands. is ∙ ap (λ (board : BoardSeen). shown_of board.tables) c.self.view_is ∙ shown_is c.args.self.now s stands) c.show.result c.show.ensures
