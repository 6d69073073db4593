-- The book that one thread makes of a round.
use Rattle.std.specs.Prelude.{◌≡◌, ℕ}
use Rattle.lvs_types.specs.declared.book.RoundBook.{RoundBook}
use Rattle.lvs_types.specs.declared.script.Round.{Round}
use Rattle.lvs_model.specs.State.{State}
use Rattle.lvs_model.specs.Plans.{listings_of}
use Rattle.lvs_model.specs.Books.{IsRun, IsSerial, at_moment}
use Rattle.lvs_model.specs.Listings.{shown_of}

-- its items in the one order of `serial`, from the state before its tick to the one that is left
pub record IsInOrder (number : ℕ) (round : Round) (before : State) (book : RoundBook) (left : State) : Type 0 where
  pub number_is : book.number ≡ number
  pub moment : book.moment ≡ round.moment
  pub workers : book.workers ≡ 1
  pub buckets : book.buckets ≡ 1
  pub order : IsSerial round book
  pub replies : IsRun (at_moment before round.moment) book.acts left
  pub shown : book.shown ≡ shown_of left (listings_of round)
