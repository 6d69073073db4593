use Rattle.lvs_entries.proofs.entries.Entries.find_in.Given as goal

abbrev pub ghosts-find_in_from : goal.ghosts-find_in_from
ghosts-find_in_from a = record { name = a.blank.name; parts = a.blank.parts }
