use Rattle.lvs_timer.proofs.timers.Timers.due.Given as goal

abbrev pub ghosts-due_from : goal.ghosts-due_from
ghosts-due_from a = record { name = a.blank.name; parts = a.blank.parts }
