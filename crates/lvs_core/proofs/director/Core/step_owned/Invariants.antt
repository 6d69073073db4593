use Rattle.lvs_core.specs.Agree.{state_of}
use Rattle.lvs_core.proofs.director.Core.step_owned.Given as goal

abbrev pub ghosts-answer : goal.ghosts-answer
ghosts-answer a = record { whole = state_of a.board.now a.buckets.now }
