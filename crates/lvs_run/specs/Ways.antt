-- The ways to play the rounds of a script, and the books that they make.
use Rattle.std.specs.Prelude.{◌≡◌, ℕ, ◌+◌, List, [], ◌∷◌}
use Rattle.lvs_types.specs.declared.book.RoundBook.{RoundBook}
use Rattle.lvs_types.specs.declared.script.Round.{Round}
use Rattle.lvs_types.specs.declared.script.Script.{Script}
use Rattle.lvs_model.specs.declared.task.ActOrder.{ActOrder}
use Rattle.lvs_model.specs.declared.task.ActOrder.TheVariants.{Serial, Free}
use Rattle.lvs_model.specs.State.{State}
use Rattle.lvs_model.specs.Plans.{plan}
use Rattle.lvs_model.specs.Books.{IsSerial, at_moment}
use Rattle.lvs_model.specs.Legal.{IsLegal}
use Rattle.lvs_model.specs.Tasks.{Run}

-- so many workers over so many buckets, with the acts of each round in such an order
pub record Way : Type 0 where
  pub order : ActOrder
  pub workers : ℕ
  pub buckets : ℕ

-- one thread, in the one order of `serial`
abbrev pub serial_way : Way
serial_way = record { order = Serial; workers = 1; buckets = 1 }

-- a thread for each actor, in any order
abbrev pub threaded_way : ℕ → ℕ → Way
threaded_way workers buckets = record { order = Free; workers = workers; buckets = buckets }

abbrev pub run_by : Way → Script → Run
run_by way script = record { script = script; workers = way.workers; buckets = way.buckets; order = way.order }

abbrev pub IsOrdered : ActOrder → Round → RoundBook → Type 0
IsOrdered Serial round book = IsSerial round book
IsOrdered Free round book = Unit {0}

-- what a round becomes: its legal book, from the state before its tick to the one that is left
pub record IsPlayed (way : Way) (number : ℕ) (round : Round) (before : State) (book : RoundBook) (left : State) : Type 0 where
  pub number_is : book.number ≡ number
  pub legal : IsLegal (at_moment before round.moment) (plan round way.workers way.buckets) book left
  pub order : IsOrdered way.order round book

-- what the first of these rounds become
abbrev pub ArePlayed : Way → ℕ → State → List Round → List RoundBook → State → Type 0
ArePlayed way number s rounds [] left = left ≡ s
ArePlayed way number s [] (book ∷ books) left = ⊥
ArePlayed way number s (round ∷ rounds) (book ∷ books) left = (mid : State) × IsPlayed way number round s book mid × ArePlayed way (number + 1) mid rounds books left
