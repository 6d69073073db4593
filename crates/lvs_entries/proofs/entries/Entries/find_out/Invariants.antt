use Rattle.lvs_entries.proofs.entries.Entries.find_out.Given as goal

abbrev pub ghosts-find_out_from : goal.ghosts-find_out_from
ghosts-find_out_from a = record { name = a.blank.name; parts = a.blank.parts }
