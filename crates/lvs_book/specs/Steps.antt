-- The kinds of step of a book, and what each tells the pass that takes it: the seat before, the number found in the word, and the seat after.
use Rattle.std.specs.Prelude.{true, ◌≡◌, ◌≢◌, ℕ, ◌^◌, ◌%◌, List, [], ◌∷◌, ◌++◌}
use Rattle.atomic_table.specs.Table.{Me}
use Rattle.lvs_book.specs.declared.view.Phase.{Phase}
use Rattle.lvs_book.specs.declared.view.Phase.TheVariants.{Out, Waiting, Turn, Committed}
use Rattle.lvs_book.specs.declared.view.Lane.{Lane}
use Rattle.lvs_book.specs.declared.view.View.{View}
use Rattle.lvs_book.specs.Lanes.{stands, numbers, naming, grown, AllFrom, Own, Apart}

module _ {A : Type 0} where
  abbrev pub ticket_of : Phase A → ℕ
  ticket_of Out = 0
  ticket_of (Waiting t) = t
  ticket_of (Turn t _) = t
  ticket_of (Committed t _ _) = t

  -- the acts that a pass in this phase gives back: those that it found, and its own once it has committed
  abbrev pub GivesBack : Phase A → List A → Type 0
  GivesBack (Turn _ found) log = log ≡ found
  GivesBack (Committed _ found a) log = log ≡ found ++ a ∷ []
  GivesBack _ log = ⊥

module _ {O A : Type 0} where
  abbrev pub in_phase : View O A → Phase A → View O A
  in_phase v p = record { phase = p; lanes = v.lanes }

  -- a pass that is out, with these lanes
  abbrev pub at_rest : List (Lane O A) → View O A
  at_rest ls = record { phase = Out; lanes = ls }

module _ {S O A : Type 0} where
  -- draw: the pass waits with the old number
  abbrev pub drawn : Me S (View O A) → ℕ → Me S (View O A) → Type 0
  drawn m r m' = (t : ℕ) × (r ≡ t % 2 ^ 64) × (m' ≡ (in_phase m.0 (Waiting t), m.1))

  -- look: the number is not its ticket, and the pass still waits
  abbrev pub looked : Me S (View O A) → ℕ → Me S (View O A) → Type 0
  looked m r m' = (r ≢ ticket_of m.0.phase % 2 ^ 64) × (m' ≡ m)

  -- raise: the same step gives the slot back, and the pass is out
  abbrev pub raised : Me S (View O A) → ℕ → Me S (View O A) → Type 0
  raised m r m' = m' ≡ (at_rest m.0.lanes, [])

module _ {S O A : Type 0} (origin : S → O) (acts : S → List A) (names : A → List ℕ) where
  -- the seat has the turn and the slot, where the value has the lanes' origin and for each of them its acts
  abbrev pub HasTurn : ℕ → Me S (View O A) → Me S (View O A) → Type 0
  HasTurn t m m' = (y : S) × (m' ≡ (in_phase m.0 (Turn t (acts y)), (0, y) ∷ [])) × AllFrom (origin y) m.0.lanes × Own names (acts y) m.0.lanes × Apart m.0.lanes

  -- turn: the number is its ticket, and the same step takes the slot
  abbrev pub turned : Me S (View O A) → ℕ → Me S (View O A) → Type 0
  turned m r m' = (r ≡ ticket_of m.0.phase % 2 ^ 64) × HasTurn (ticket_of m.0.phase) m m'

  -- before the work: the held value has this origin, and for each of these lanes these acts
  abbrev pub Ready : List ℕ → O → (ℕ → List A) → Me S (View O A) → Type 0
  Ready lanes o lists m = (y : S) × (m.1 ≡ (0, y) ∷ []) × (origin y ≡ o) × ((k : ℕ) → stands k lanes ≡ true → naming names k (acts y) ≡ lists k)

  -- work: the held value has one more act, which names just these lanes and of which `follows` holds; no view changes
  abbrev pub worked : List ℕ → (A → Type 0) → Me S (View O A) → Me S (View O A) → Type 0
  worked lanes follows m m' = (y : S) × (z : S) × (a : A) × (m.1 ≡ (0, y) ∷ []) × (m' ≡ (m.0, (0, z) ∷ [])) × (acts z ≡ acts y ++ a ∷ []) × (origin z ≡ origin y) × ((k : ℕ) → stands k (names a) ≡ stands k lanes) × follows a

  -- before the commit: the seat has the turn, and the held value has one act more than it found, which names the seat's lanes
  abbrev pub Added : Me S (View O A) → Type 0
  Added m = (y : S) × (t : ℕ) × (found : List A) × (a : A) × (m.1 ≡ (0, y) ∷ []) × (m.0.phase ≡ Turn t found) × (acts y ≡ found ++ a ∷ []) × ((k : ℕ) → stands k (names a) ≡ stands k (numbers m.0.lanes)) × AllFrom (origin y) m.0.lanes

  -- commit: the act that the held value has last is one more of each of the pass's lanes
  abbrev pub committed : Me S (View O A) → ℕ → Me S (View O A) → Type 0
  committed m r m' = (t : ℕ) × (found : List A) × (a : A) × (m' ≡ (record { phase = Committed t found a; lanes = grown a m.0.lanes }, m.1)) × ((y : S) → m.1 ≡ (0, y) ∷ [] → acts y ≡ found ++ a ∷ [])

  -- before the raise: the seat holds the value, with the origin and the acts that it has to give back
  abbrev pub MayLeave : Me S (View O A) → Type 0
  MayLeave m = (y : S) × (m.1 ≡ (0, y) ∷ []) × GivesBack m.0.phase (acts y) × AllFrom (origin y) m.0.lanes
