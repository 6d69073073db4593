use Rattle.lvs_book.proofs.tests.entered.Given as goal

abbrev pub ghosts-enter_all : goal.ghosts-enter_all
ghosts-enter_all g a = record { book = a.book.id }
