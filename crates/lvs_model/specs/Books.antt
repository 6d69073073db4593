-- Books of rounds: sound, whole and legal.
use Rattle.std.specs.Prelude.{◌≡◌, ℕ, ◌+◌, List, [], ◌∷◌, Some, None, map, length, slice_get, ◌==◌}
use Rattle.std.specs.List.{filter}
use Rattle.lvs_types.specs.declared.item.Item.{Item}
use Rattle.lvs_types.specs.declared.item.Item.TheVariants as item
use Rattle.lvs_types.specs.declared.reply.Reply.{Reply}
use Rattle.lvs_types.specs.declared.book.Noted.{Noted}
use Rattle.lvs_types.specs.declared.book.Placed.{Placed}
use Rattle.lvs_types.specs.declared.book.RoundBook.{RoundBook}
use Rattle.lvs_types.specs.declared.book.RoundPlan.{RoundPlan}
use Rattle.lvs_types.specs.declared.script.Round.{Round}
use Rattle.lvs_model.specs.State.{State}
use Rattle.lvs_model.specs.Step.{step, run}
use Rattle.lvs_model.specs.Plans.{serial_items}

abbrev pub items_of : List Noted → List Item
items_of acts = map (λ (act : Noted). act.item) acts

abbrev pub replies_of : List Noted → List Reply
replies_of acts = map (λ (act : Noted). act.reply) acts

abbrev pub placed_of : Noted → Placed
placed_of act = record { actor = act.actor; number = act.number; item = act.item }

-- the acts of one actor, in order of place
abbrev pub acts_of : ℕ → List Noted → List Noted
acts_of actor acts = filter (λ (act : Noted). act.actor == actor) acts

-- the acts are numbered from this number, and their items are those of the list from its front
abbrev pub AreFrom : ℕ → List Item → List Noted → Type 0
AreFrom number items [] = Unit {0}
AreFrom number [] (act ∷ acts) = ⊥
AreFrom number (first ∷ items) (act ∷ acts) = (act.number ≡ number) × (act.item ≡ first) × AreFrom (number + 1) items acts

-- the replies are those of the run of the items in order of place
abbrev pub IsRun : State → List Noted → State → Type 0
IsRun s acts left = run s (items_of acts) ≡ (replies_of acts, left)

-- the book is of this plan: each actor's acts are its items, in order and numbered from 0, and each reply is the step's at its place
pub record IsSound (s : State) (p : RoundPlan) (book : RoundBook) (left : State) : Type 0 where
  pub moment : book.moment ≡ p.moment
  pub buckets : book.buckets ≡ p.buckets
  pub workers : book.workers + 3 ≡ length p.lists
  pub actors : (actor : ℕ) (items : List Item) → slice_get p.lists actor ≡ Some items → AreFrom 0 items (acts_of actor book.acts)
  pub none : (actor : ℕ) → slice_get p.lists actor ≡ None → acts_of actor book.acts ≡ []
  pub replies : IsRun s book.acts left

-- each actor's list is used up
abbrev pub IsWhole : RoundPlan → RoundBook → Type 0
IsWhole p book = (actor : ℕ) (items : List Item) → slice_get p.lists actor ≡ Some items → length (acts_of actor book.acts) ≡ length items

-- the acts stand in the one order of `serial`
abbrev pub IsSerial : Round → RoundBook → Type 0
IsSerial round book = map placed_of book.acts ≡ serial_items round

-- the moment becomes the round's
abbrev pub at_moment : State → ℕ → State
at_moment s moment = (step s (item.Tick moment)).1
