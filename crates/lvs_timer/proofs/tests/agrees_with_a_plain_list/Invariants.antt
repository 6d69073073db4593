use Rattle.lvs_timer.proofs.tests.agrees_with_a_plain_list.Given as goal

abbrev pub ghosts-count_due : goal.ghosts-count_due
ghosts-count_due g a = record { name = a.blank.name; parts = a.blank.parts }
