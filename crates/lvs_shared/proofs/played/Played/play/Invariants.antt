use Rattle.lvs_shared.specs.Acts.{left}
use Rattle.lvs_shared.specs.Played.{seen_of}
use Rattle.lvs_shared.proofs.played.Played.play.Given as goal

abbrev pub ghosts-decide_next : goal.ghosts-decide_next
ghosts-decide_next a = record { whole = left a.origin.now.value (seen_of a.origin.now.value a.board.now a.changes.now.items).acts }
