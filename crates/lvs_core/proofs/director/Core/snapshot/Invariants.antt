use Rattle.lvs_core.specs.Agree.{state_of}
use Rattle.lvs_core.proofs.director.Core.snapshot.Given as goal

abbrev pub ghosts-show : goal.ghosts-show
ghosts-show a = record { whole = state_of a.board.now a.buckets.now }
