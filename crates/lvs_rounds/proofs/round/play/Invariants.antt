use Rattle.lvs_rounds.proofs.round.play.Given as goal

abbrev pub ghosts-play_named : goal.ghosts-play_named
ghosts-play_named g a = record { book = record { id = a.opening.book; lanes = 0; origin = a.opening.origin } }
