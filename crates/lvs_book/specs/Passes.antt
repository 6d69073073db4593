-- What contracts see of passes and of a book.
use Rattle.std.specs.Prelude.{◌≡◌, ℕ, zero, suc, List, [], ◌∷◌, ◌++◌}
use Rattle.atomic_table.specs.Seated.{TableId}
use Rattle.lvs_book.specs.declared.view.Lane.{Lane}
use Rattle.lvs_book.specs.declared.view.View.{View}
use Rattle.lvs_book.specs.Lanes.{naming}
use Rattle.lvs_book.specs.Steps.{at_rest}

-- a pass: the identity of its book, its lane, the book's origin, and the acts that were committed with it
pub record Held (O A : Type 0) : Type 0 where
  pub book : TableId
  pub lane : ℕ
  pub origin : O
  pub acts : List A

-- a book: its identity, how many lanes it has, and its origin
pub record BookIs (O : Type 0) : Type 0 where
  pub id : TableId
  pub lanes : ℕ
  pub origin : O

module _ {O A : Type 0} where
  -- the pass of a lane, and the lane of a pass
  abbrev pub held_lane : TableId → Lane O A → Held O A
  held_lane z x = record { book = z; lane = x.number; origin = x.origin; acts = x.acts }

  abbrev pub lane_of : Held O A → Lane O A
  lane_of p = record { number = p.lane; origin = p.origin; acts = p.acts }

  -- one act more
  abbrev pub with_act : A → Held O A → Held O A
  with_act a p = record p { acts = p.acts ++ a ∷ [] }

  -- m new passes, for the lanes from k on
  abbrev pub opened : TableId → O → ℕ → ℕ → List (Held O A)
  opened z o k zero = []
  opened z o k (suc m) = record { book = z; lane = k; origin = o; acts = [] } ∷ opened z o (suc k) m

  -- all passes of this book in order, for the lanes from k on and below n
  abbrev pub AreAll : TableId → ℕ → ℕ → List (Held O A) → Type 0
  AreAll z k n [] = k ≡ n
  AreAll z k n (p ∷ ps) = (p.book ≡ z) × (p.lane ≡ k) × AreAll z (suc k) n ps

  -- each pass has this origin, and its acts are those of the history that name its lane
  abbrev pub Tells : (A → List ℕ) → O → List A → List (Held O A) → Type 0
  Tells names o log [] = Unit {0}
  Tells names o log (p ∷ ps) = (p.origin ≡ o) × (p.acts ≡ naming names p.lane log) × Tells names o log ps

  -- one view, which is out and has one lane
  abbrev pub IsHeld : List (View O A) → Type 0
  IsHeld vs = (x : Lane O A) × (vs ≡ at_rest (x ∷ []) ∷ [])

  -- the pass of the first lane of the first view; o stands where there is none
  abbrev pub held_first : TableId → O → List (Lane O A) → Held O A
  held_first z o [] = record { book = z; lane = 0; origin = o; acts = [] }
  held_first z o (x ∷ xs) = held_lane z x

  abbrev pub held_by : TableId → O → List (View O A) → Held O A
  held_by z o [] = held_first z o []
  held_by z o (v ∷ vs) = held_first z o v.lanes
