-- The rule of a book, which each step keeps. Word 0 is the next ticket, word 1 the ticket that is served, word 2 the count of the acts; the one slot holds the value.
-- The numbers below are not cut off: a word is its number modulo 2^64. A view is spent when it has no lane.
use Rattle.std.specs.Prelude.{◌≡◌, ℕ, ◌+◌, ◌^◌, ◌%◌, ◌<◌, ◌≤◌, eqb, List, [], ◌∷◌, ◌++◌, length}
use mathlib.Core.Option.{some, none}
use mathlib.Core.Option as core
use lib.ListN.{get_elem?}
use Rattle.atomic_table.specs.Table.{State}
use Rattle.lvs_book.specs.declared.view.Phase.{Phase}
use Rattle.lvs_book.specs.declared.view.Phase.TheVariants.{Out, Waiting, Turn, Committed}
use Rattle.lvs_book.specs.declared.view.View.{View}
use Rattle.lvs_book.specs.Sums.{total, one_if, between}
use Rattle.lvs_book.specs.Lanes.{times, numbers, AllFrom, Own, Within}

module _ {A : Type 0} where
  -- 1 where the pass has this ticket
  abbrev pub has_ticket : ℕ → Phase A → ℕ
  has_ticket t Out = 0
  has_ticket t (Waiting u) = one_if (eqb u t)
  has_ticket t (Turn u _) = one_if (eqb u t)
  has_ticket t (Committed u _ _) = one_if (eqb u t)

  -- 1 where the pass has some ticket
  abbrev pub waits : Phase A → ℕ
  waits Out = 0
  waits _ = 1

  -- 1 where the pass has the turn, or has committed
  abbrev pub works : Phase A → ℕ
  works Out = 0
  works (Waiting _) = 0
  works _ = 1

module _ {O A : Type 0} where
  abbrev pub ticket : ℕ → View O A → ℕ
  ticket t v = has_ticket t v.phase

  abbrev pub waiting : View O A → ℕ
  waiting v = waits v.phase

  abbrev pub working : View O A → ℕ
  working v = works v.phase

  abbrev pub lane : ℕ → View O A → ℕ
  lane k v = times k (numbers v.lanes)

  abbrev pub lane_count : View O A → ℕ
  lane_count v = length v.lanes

module _ {S O A : Type 0} (origin : S → O) (acts : S → List A) (names : A → List ℕ) where
  -- only the ticket that is served has the turn; its acts are the history, with the new act once it has committed
  abbrev pub Turns : ℕ → List A → Phase A → Type 0
  Turns served log Out = Unit {0}
  Turns served log (Waiting t) = Unit {0}
  Turns served log (Turn t found) = (t ≡ served) × (found ≡ log)
  Turns served log (Committed t found a) = (t ≡ served) × (found ++ a ∷ [] ≡ log)

  -- what one view says for itself: a spent one has no ticket
  abbrev pub Sound : ℕ → List A → O → View O A → Type 0
  Sound served log o v = Turns served log v.phase × (waits v.phase ≤ length v.lanes) × AllFrom o v.lanes × Own names log v.lanes

  -- the slot is out exactly while one pass works, and at home it has the book's origin and the history
  abbrev pub Slot : List (core.Option S) → List A → O → ℕ → Type 0
  Slot [] log o busy = ⊥
  Slot (some x ∷ []) log o busy = (origin x ≡ o) × (acts x ≡ log) × (busy ≡ 0)
  Slot (none ∷ []) log o busy = busy ≡ 1
  Slot (_ ∷ _ ∷ _) log o busy = ⊥

  -- n lanes, and the origin o
  pub record Kept (n : ℕ) (o : O) (s : State S (View O A)) : Type 0 where
    -- the ticket that is served, and the history
    pub served : ℕ
    pub log : List A
    -- there are fewer than 2^32 lanes, and each stands in exactly one view
    pub few : n < 2 ^ 32
    pub all : total lane_count s.views ≡ n
    pub once : (k : ℕ) → total (lane k) s.views ≡ between 0 n k
    -- serving and the number of passes with a ticket make the next ticket; the count is the history's length
    pub words : s.words ≡ (served + total waiting s.views) % 2 ^ 64 ∷ served % 2 ^ 64 ∷ length log % 2 ^ 64 ∷ []
    -- the tickets are distinct, and are the numbers from serving on
    pub tickets : (t : ℕ) → total (ticket t) s.views ≡ between served (served + total waiting s.views) t
    pub slot : Slot s.homes log o (total working s.views)
    pub each : (i : ℕ) (v : View O A) → get_elem? s.views i ≡ some v → Sound served log o v
    -- each act names some lane, and only lanes of the book
    pub within : Within names n log
