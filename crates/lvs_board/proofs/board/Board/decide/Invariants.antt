use Rattle.lvs_rules.specs.Finds.{entry_in}
use Rattle.lvs_board.specs.Homes.{id_of, sweep_of}
use Rattle.lvs_board.proofs.board.Board.decide.Given as goal

abbrev pub ghosts-decide_item : goal.ghosts-decide_item
ghosts-decide_item g a = record { home = id_of (entry_in a.found.now); sweep = sweep_of a.item.now }
