use Rattle.lvs_entries.proofs.tests.takes_one_step_in_a_chain_of_one.Given as goal

abbrev pub ghosts-look_at_both : goal.ghosts-look_at_both
ghosts-look_at_both g a = record { name = a.blank.name; parts = a.blank.parts }
