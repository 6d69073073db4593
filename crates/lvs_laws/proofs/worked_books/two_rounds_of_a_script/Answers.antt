use Rattle.std.proofs.Common.{refl}
use Rattle.std.specs.Fmt.{digits}
use Rattle.lvs_types.specs.declared.command.Command.TheVariants as command
use Rattle.lvs_types.specs.declared.book.Shown.TheVariants as shown
use Rattle.lvs_model.specs.Listings.{key_text, options_text, persist_text, mask_text, flag_text}
use Rattle.lvs_model.specs.State.{State, initial}
use Rattle.lvs_model.specs.Step.{run}
use Rattle.lvs_model.specs.Books.{at_moment, items_of}
use Rattle.lvs_laws.specs.BookExamples.{acts_with, add_web, no_addr}
use Rattle.lvs_laws.proofs.LegalBooks.{legal_round}
use Rattle.lvs_laws.proofs.worked_books.two_rounds_of_a_script.Goals as goal

-- what the acts of a round leave
abbrev after_first : State
after_first = (run (at_moment (initial no_addr 1) 0) (items_of (acts_with add_web))).1

abbrev after_second : State
after_second = (run (at_moment after_first 5) (items_of (acts_with command.Clear))).1

pub returns-clause-legal : goal.returns-clause-legal
unfolding digits key_text options_text persist_text mask_text flag_text
returns-clause-legal c = (
  after_first,
  refl,
  legal_round 0 0 add_web shown.List _ (initial no_addr 1) after_first refl refl,
  (after_second, refl, legal_round 1 5 command.Clear shown.Save _ after_first after_second refl refl, tt),
)

pub returns-clause-report : goal.returns-clause-report
unfolding digits
returns-clause-report c = refl
