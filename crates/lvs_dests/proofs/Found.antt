-- What the indexes find is what a search of the whole list finds.
use Rattle.std.proofs.Common.{◌≡◌, ◌≢◌, ℕ, zero, suc, arith, ◌⊎◌, inl, inr, Bool, true, false, ◌||◌, cond, refl, sym, ap, ◌∙◌, subst, List, [], ◌∷◌, Option, Some, None, map, nat_le}
use Rattle.std.specs.List.{AllByRecursion, list_any, find}
use Rattle.std.proofs.lemmas.Option.{none-some, same_Some}
use Rattle.lvs_types.specs.declared.addr.DestId.{DestId}
use Rattle.lvs_types.specs.declared.dest.DestRow.{DestRow}
use Rattle.lvs_model.specs.Lists.{insert_by, sorted_by}
use Rattle.lvs_dests.specs.declared.slots.Slot.{Slot}
use Rattle.lvs_dests.specs.Rows.{has_row_id}
use Rattle.lvs_dests.specs.Pool.{IsIndex, rows_in, id_in, DifferInId}
use Rattle.lvs_dests.proofs.Same.{tested, decide_id, apart_ids}
use Rattle.lvs_dests.proofs.Index.{index_one}
use Rattle.lvs_dests.proofs.Sorted.{all_sorted, any_sorted}
use Rattle.lvs_dests.proofs.Occupied.{held_by, at_key, held_all, held_any}

-- ---- lists

pub all_map : {X Y : Type 0} (f : X → Y) (P : Y → Type 0) (xs : List X) → AllByRecursion (λ x. P (f x)) xs → AllByRecursion P (map f xs)
all_map f P [] all = tt
all_map f P (x ∷ xs) all = (all.0, all_map f P xs all.1)

pub any_map : {X Y : Type 0} (f : X → Y) (p : Y → Bool) (xs : List X) → list_any p (map f xs) ≡ list_any (λ x. p (f x)) xs
any_map f p [] = refl
any_map f p (x ∷ xs) = ap (λ t. p (f x) || t) (any_map f p xs)

module _ {X : Type 0} (p : X → Bool) where
  one_by : (x y : X) (ys : List X) (b : Bool) → p y ≡ b → (b || list_any p ys) ≡ true → (p y ≡ true → y ≡ x) → (list_any p ys ≡ true → find p ys ≡ Some x) → cond b (Some y) (find p ys) ≡ Some x
  one_by x y ys true is any same rest = ap (λ (z : X). Some z) (same is)
  one_by x y ys false is any same rest = rest any

  -- the only one that passes is found
  pub find_one : (x : X) (ys : List X) → list_any p ys ≡ true → AllByRecursion (λ y. p y ≡ true → y ≡ x) ys → find p ys ≡ Some x
  find_one x [] any all = absurd (cc)
  find_one x (y ∷ ys) any all = one_by x y ys (p y) refl any all.0 (λ some. find_one x ys some all.1)

  pub find_nothing : (ys : List X) → AllByRecursion (λ y. p y ≡ false) ys → find p ys ≡ None
  find_nothing [] all = refl
  find_nothing (y ∷ ys) all = rw all.0 (find_nothing ys all.1)

  found_by : (x y : X) (ys : List X) (b : Bool) → p y ≡ b → cond b (Some y) (find p ys) ≡ Some x → (find p ys ≡ Some x → p x ≡ true) → p x ≡ true
  found_by x y ys true is found rest = subst (λ (z : X). p z ≡ true) (same_Some y x found) is
  found_by x y ys false is found rest = rest found

  -- what is found passes
  pub find_passes : (x : X) (ys : List X) → find p ys ≡ Some x → p x ≡ true
  find_passes x [] found = absurd (none-some x found)
  find_passes x (y ∷ ys) found = found_by x y ys (p y) refl found (find_passes x ys)

  none_by : (y : X) (ys : List X) (b : Bool) → p y ≡ b → cond b (Some y) (find p ys) ≡ None → (b ≡ false) × (find p ys ≡ None)
  none_by y ys true is none = absurd (none-some y (sym none))
  none_by y ys false is none = (refl, none)

  -- where none is found none passes
  pub none_passes : (ys : List X) → find p ys ≡ None → AllByRecursion (λ y. p y ≡ false) ys
  none_passes [] none = tt
  none_passes (y ∷ ys) none = let parts = none_by y ys (p y) refl none in (parts.0, none_passes ys parts.1)

-- ---- the rows of some slots

abbrev row_in : Slot → DestRow
row_in slot = slot.row

-- what holds of each slot holds of each row
pub rows_all : (P : DestRow → Type 0) (slots : List (Option Slot)) → ((key : ℕ) (slot : Slot) → at_key slots key ≡ Some slot → P slot.row) → AllByRecursion P (rows_in slots)
rows_all P slots each =
    all_map row_in P (sorted_by (λ (s : Slot). s.sequence) (held_by slots))
    (all_sorted (λ (s : Slot). s.sequence) (λ (s : Slot). P s.row) (held_by slots) (held_all (λ (s : Slot). P s.row) slots each))

pub rows_any : (p : DestRow → Bool) (slots : List (Option Slot)) → list_any p (rows_in slots) ≡ list_any (λ (s : Slot). p s.row) (held_by slots)
rows_any p slots =
    any_map row_in p (sorted_by (λ (s : Slot). s.sequence) (held_by slots)) ∙ any_sorted (λ (s : Slot). s.sequence) (λ (s : Slot). p s.row) (held_by slots)

module _ {K : Type 0} (decide : (a b : K) → (a ≡ b) ⊎ (a ≢ b)) (value : Slot → K) (key_of : K → Option ℕ) (slots : List (Option Slot)) (index : IsIndex value key_of (at_key slots)) (v : K) (p : DestRow → Bool) (tells : (s : Slot) → p s.row ≡ true → value s ≡ v) where
  -- the row to which a value leads is the only one that passes its test
  pub only_there : (key : ℕ) (slot : Slot) → at_key slots key ≡ Some slot → value slot ≡ v → AllByRecursion (λ (row : DestRow). p row ≡ true → row ≡ slot.row) (rows_in slots)
  only_there key slot there is =
      rows_all (λ (row : DestRow). p row ≡ true → row ≡ slot.row) slots
      (λ other x at holds.
      let place : other ≡ key = index_one decide value key_of (at_key slots) index key other slot x there at (tells x holds ∙ sym is) in
      let here : at_key slots key ≡ Some x = subst (λ (n : ℕ). at_key slots n ≡ Some x) place at in
      ap row_in (same_Some x slot (sym here ∙ there)))

  -- and it is found
  pub found_there : (key : ℕ) (slot : Slot) → at_key slots key ≡ Some slot → value slot ≡ v → p slot.row ≡ true → find p (rows_in slots) ≡ Some slot.row
  found_there key slot there is passes =
      find_one p slot.row (rows_in slots) (rows_any p slots ∙ held_any (λ (s : Slot). p s.row) slots key slot there passes) (only_there key slot there is)

  -- a value that leads nowhere
  pub nowhere : key_of v ≡ None → AllByRecursion (λ (row : DestRow). p row ≡ false) (rows_in slots)
  nowhere none =
      rows_all (λ (row : DestRow). p row ≡ false) slots
      (λ key slot there. elim (tested (p slot.row)) [
        | inl holds ↦
            let led : key_of v ≡ Some key = subst (λ (u : K). key_of u ≡ Some key) (tells slot holds) (index.found key slot there) in
            absurd (none-some key (sym none ∙ led))
        | inr fails ↦ fails
      ])

-- ---- no two rows have one id

-- no two slots have one value
abbrev pub SlotsApart : {K : Type 0} → (Slot → K) → List Slot → Type 0
SlotsApart value [] = Unit {0}
SlotsApart value (slot ∷ slots) = AllByRecursion (λ (other : Slot). value other ≢ value slot) slots × SlotsApart value slots

pub held_apart : {K : Type 0} (value : Slot → K) (slots : List (Option Slot)) → ((key other : ℕ) (slot x : Slot) → at_key slots key ≡ Some slot → at_key slots other ≡ Some x → value x ≡ value slot → other ≡ key) → SlotsApart value (held_by slots)
held_apart value [] one = tt
held_apart value (None ∷ slots) one = held_apart value slots (λ key other slot x here there same. let e = one (suc key) (suc other) slot x here there same in omega arith)
held_apart value (Some s ∷ slots) one = (
  held_all (λ (other : Slot). value other ≢ value s) slots (λ key x there same. let e : suc key ≡ zero = one zero (suc key) s x refl there same in omega arith),
  held_apart value slots (λ key other slot x here there same. let e = one (suc key) (suc other) slot x here there same in omega arith),
)

module _ {K : Type 0} (value : Slot → K) (number : Slot → ℕ) where
  insert_apart_by : (slot other : Slot) (others later : List Slot) (b : Bool) → AllByRecursion (λ (x : Slot). value x ≢ value slot) (other ∷ others) → SlotsApart value (other ∷ others) → (value slot ≢ value other → AllByRecursion (λ (x : Slot). value x ≢ value other) later) → SlotsApart value later → SlotsApart value (cond b (slot ∷ other ∷ others) (other ∷ later))
  insert_apart_by slot other others later true away apart rest more = (away, apart)
  insert_apart_by slot other others later false away apart rest more = (rest (λ same. away.0 (sym same)), more)

  insert_away_by : (P : Slot → Type 0) (slot other : Slot) (others later : List Slot) (b : Bool) → P slot → AllByRecursion P (other ∷ others) → AllByRecursion P later → AllByRecursion P (cond b (slot ∷ other ∷ others) (other ∷ later))
  insert_away_by P slot other others later true here all rest = (here, all)
  insert_away_by P slot other others later false here all rest = (all.0, rest)

  insert_away : (P : Slot → Type 0) (slot : Slot) (slots : List Slot) → P slot → AllByRecursion P slots → AllByRecursion P (insert_by number slot slots)
  insert_away P slot [] here all = (here, tt)
  insert_away P slot (other ∷ others) here all = insert_away_by P slot other others (insert_by number slot others) (nat_le (number slot) (number other)) here all (insert_away P slot others here all.1)

  insert_apart : (slot : Slot) (slots : List Slot) → AllByRecursion (λ (x : Slot). value x ≢ value slot) slots → SlotsApart value slots → SlotsApart value (insert_by number slot slots)
  insert_apart slot [] away apart = (tt, tt)
  insert_apart slot (other ∷ others) away apart =
      insert_apart_by slot other others (insert_by number slot others) (nat_le (number slot) (number other)) away apart
      (λ differ. insert_away (λ (x : Slot). value x ≢ value other) slot others differ apart.0) (insert_apart slot others away.1 apart.1)

  pub sorted_apart : (slots : List Slot) → SlotsApart value slots → SlotsApart value (sorted_by number slots)
  sorted_apart [] apart = tt
  sorted_apart (slot ∷ slots) apart = insert_apart slot (sorted_by number slots) (all_sorted number (λ (x : Slot). value x ≢ value slot) slots apart.0) (sorted_apart slots apart.1)

none_of : (slot : Slot) (slots : List Slot) → AllByRecursion (λ (x : Slot). id_in x ≢ id_in slot) slots → list_any (has_row_id (id_in slot)) (map row_in slots) ≡ false
none_of slot [] away = refl
none_of slot (x ∷ slots) away = rw (apart_ids (id_in x) (id_in slot) away.0) (none_of slot slots away.1)

rows_apart : (slots : List Slot) → SlotsApart id_in slots → DifferInId (map row_in slots)
rows_apart [] apart = tt
rows_apart (slot ∷ slots) apart = (none_of slot slots apart.0, rows_apart slots apart.1)

pub are_apart : (key_of : DestId → Option ℕ) (slots : List (Option Slot)) → IsIndex id_in key_of (at_key slots) → DifferInId (rows_in slots)
are_apart key_of slots index =
    rows_apart (sorted_by (λ (s : Slot). s.sequence) (held_by slots))
    (sorted_apart id_in (λ (s : Slot). s.sequence) (held_by slots) (held_apart id_in slots (λ key other slot x here there same. index_one decide_id id_in key_of (at_key slots) index key other slot x here there same)))
