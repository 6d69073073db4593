-- Legal books of the rounds of a script.
use Rattle.std.specs.Prelude.{◌≡◌, ℕ, ◌+◌, List, [], ◌∷◌}
use Rattle.lvs_types.specs.declared.book.RoundBook.{RoundBook}
use Rattle.lvs_types.specs.declared.book.RoundPlan.{RoundPlan}
use Rattle.lvs_types.specs.declared.script.Round.{Round}
use Rattle.lvs_model.specs.State.{State}
use Rattle.lvs_model.specs.Plans.{plan}
use Rattle.lvs_model.specs.Books.{IsSound, IsWhole, at_moment}
use Rattle.lvs_model.specs.Listings.{shown_of}

-- sound and whole, and the listings are those of the state that is left, in the order of the script
pub record IsLegal (s : State) (p : RoundPlan) (book : RoundBook) (left : State) : Type 0 where
  pub sound : IsSound s p book left
  pub whole : IsWhole p book
  pub shown : book.shown ≡ shown_of left p.shown

-- legal books of the first of these rounds, for so many workers and buckets: numbered from this number on, the first from this state after its tick, each next one from the state that the one before left
abbrev pub AreLegalBooks : ℕ → ℕ → ℕ → State → List Round → List RoundBook → Type 0
AreLegalBooks workers buckets number s rounds [] = Unit {0}
AreLegalBooks workers buckets number s [] (book ∷ books) = ⊥
AreLegalBooks workers buckets number s (round ∷ rounds) (book ∷ books) =
    (left : State) × (book.number ≡ number) × IsLegal (at_moment s round.moment) (plan round workers buckets) book left × AreLegalBooks workers buckets (number + 1) left rounds books
