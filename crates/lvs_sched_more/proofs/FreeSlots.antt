-- The first free slot, and what taking it leaves.
use Rattle.std.proofs.Common.{◌≡◌, ℕ, suc, ◌+◌, ◌-◌, ◌<◌, ◌≤◌, Bool, true, false, cond, not, ◌==◌, List, [], ◌∷◌, ◌++◌, length, take, drop, get_or, set, Option, Some, None, is_none, position, count_by, unwrap_or, ⊎_elim, eq-eqb, refl, sym, arith, length-take, length-drop}
use Rattle.std.specs.List.{position_or_len}
use Rattle.std.proofs.Math.Nat.{mod-eq_of_lt, add-mod_left}
use Rattle.std.proofs.lemmas.Bool.{cases_lt}
use Rattle.std.proofs.lemmas.Bool.Decides.{nat_tests}
use Rattle.std.proofs.lemmas.Grind.{common_steps}
use Rattle.std.proofs.lemmas.List.{get_or-take, get_or-drop}
use Rattle.std.proofs.lemmas.List.Folds.{prefix_len-append}
use Rattle.std.proofs.lemmas.List.Sums.{sum_by-set, sum_by-take-drop, sum_by-cons, prefix_len-le-length, passes_at_first}
use Rattle.lvs_model.specs.MorePicks.{first_free, is_of}

pub position_some : {X : Type 0} (p : X → Bool) (xs : List X) (i : ℕ) → position p xs ≡ Some i → (i ≡ position_or_len p xs) × (i < length xs)
position_some p xs i found = grind (arith, common_steps)

pub position_none : {X : Type 0} (p : X → Bool) (xs : List X) → position p xs ≡ None → length xs ≤ position_or_len p xs
position_none p xs none = grind (arith, common_steps)

-- the first that passes in one list behind another
pub first_in_front : {X : Type 0} (p : X → Bool) (xs ys : List X) → position_or_len p xs < length xs → position_or_len p (xs ++ ys) ≡ position_or_len p xs
first_in_front p xs ys within = let whole = prefix_len-append (λ x. not (p x)) xs ys in grind (arith, nat_tests)

pub first_in_back : {X : Type 0} (p : X → Bool) (xs ys : List X) → length xs ≤ position_or_len p xs → position_or_len p (xs ++ ys) ≡ length xs + position_or_len p ys
first_in_back p xs ys past =
    let whole = prefix_len-append (λ x. not (p x)) xs ys in
    let most = prefix_len-le-length (λ x. not (p x)) xs in
    grind (arith, nat_tests)

-- the first free slot, where one is free from the start on
pub free_behind : (slots : List (Option ℕ)) (start : ℕ) → length slots ≡ 256 → start < 256 → position_or_len (λ slot. is_none slot) (drop start slots) < 256 - start → first_free start slots ≡ start + position_or_len (λ slot. is_none slot) (drop start slots)
free_behind slots start number early within =
    let size = length-drop start slots in
    let front = first_in_front (λ slot. is_none slot) (drop start slots) (take start slots) (omega arith) in
    rw front (mod-eq_of_lt (omega arith))

-- the first free slot, where none is free from the start on
pub free_before : (slots : List (Option ℕ)) (start : ℕ) → length slots ≡ 256 → start < 256 → 256 - start ≤ position_or_len (λ slot. is_none slot) (drop start slots) → first_free start slots ≡ position_or_len (λ slot. is_none slot) (take start slots)
free_before slots start number early past =
    let size = length-drop start slots in
    let other = length-take start slots in
    let most = prefix_len-le-length (λ slot. not (is_none slot)) (take start slots) in
    let back = first_in_back (λ slot. is_none slot) (drop start slots) (take start slots) (omega arith) in
    let round : start + position_or_len (λ slot. is_none slot) (drop start slots ++ take start slots) ≡ 256 + position_or_len (λ slot. is_none slot) (take start slots) = omega arith in
    rw (round, add-mod_left 256 (position_or_len (λ slot. is_none slot) (take start slots))) (mod-eq_of_lt (omega arith))

pub found_behind : (slots : List (Option ℕ)) (start steps : ℕ) → length slots ≡ 256 → start < 256 → position (λ slot. is_none slot) (drop start slots) ≡ Some steps → start + steps ≡ first_free start slots
found_behind slots start steps number early found =
    let place = position_some (λ slot. is_none slot) (drop start slots) steps found in
    let size = length-drop start slots in
    let here = free_behind slots start number early (omega arith) in
    omega arith

pub found_before : (slots : List (Option ℕ)) (start : ℕ) (r : Option ℕ) → length slots ≡ 256 → start < 256 → position (λ slot. is_none slot) (drop start slots) ≡ None → r ≡ position (λ slot. is_none slot) (take start slots) → unwrap_or r start ≡ first_free start slots
found_before slots start None number early none is =
    let size = length-drop start slots in
    let other = length-take start slots in
    let past = position_none (λ slot. is_none slot) (drop start slots) none in
    let past_too = position_none (λ slot. is_none slot) (take start slots) (sym is) in
    let most = prefix_len-le-length (λ slot. not (is_none slot)) (take start slots) in
    let here = free_before slots start number early (omega arith) in
    omega arith
found_before slots start (Some place) number early none is =
    let size = length-drop start slots in
    let past = position_none (λ slot. is_none slot) (drop start slots) none in
    let found = position_some (λ slot. is_none slot) (take start slots) place (sym is) in
    let here = free_before slots start number early (omega arith) in
    omega arith

some_passes_head : {X : Type 0} (b : Bool) (xs : List X) (n count : ℕ) → (0 < count → n < length xs) → 0 < cond b 1 0 + count → cond (not b) (1 + n) 0 < suc (length xs)
some_passes_head true xs n count later some = omega arith
some_passes_head false xs n count later some = let rest = later (omega arith) in omega arith

-- a list with an element that passes has a first one
pub some_passes : {X : Type 0} (p : X → Bool) (xs : List X) → 0 < count_by p xs → position_or_len p xs < length xs
some_passes p [] some = absurd (omega arith)
some_passes p (x ∷ xs) some =
    let whole = sum_by-cons (λ x. cond (p x) 1 0) x xs in
    some_passes_head (p x) xs (position_or_len p xs) (count_by p xs) (some_passes p xs) (omega arith)

pub is_free : (slot : Option ℕ) → is_none slot ≡ true → slot ≡ None
is_free None none = refl
is_free (Some place) none = cc

pub record IsFree (slots : List (Option ℕ)) (slot : ℕ) : Type 0 where
  pub within : slot < 256
  pub free : get_or slots slot None ≡ None

-- where no slot is free from the start on, one before is
pub free_in_front : (slots : List (Option ℕ)) (start : ℕ) → length slots ≡ 256 → start < 256 → 0 < count_by (λ slot. is_none slot) slots → 256 - start ≤ position_or_len (λ slot. is_none slot) (drop start slots) → 0 < count_by (λ slot. is_none slot) (take start slots)
free_in_front slots start number early some past =
    let size = length-drop start slots in
    let parts = sum_by-take-drop (λ (slot : Option ℕ). cond (is_none slot) 1 0) slots start in
    ⊎_elim
    (λ here. let not_here = some_passes (λ slot. is_none slot) (drop start slots) here in absurd (omega arith))
    (λ none. omega arith)
    (cases_lt 0 (count_by (λ slot. is_none slot) (drop start slots)))

pub is_free_behind : (slots : List (Option ℕ)) (start : ℕ) → length slots ≡ 256 → start < 256 → position_or_len (λ slot. is_none slot) (drop start slots) < 256 - start → IsFree slots (first_free start slots)
is_free_behind slots start number early within =
    let size = length-drop start slots in
    let found = is_free (get_or (drop start slots) (position_or_len (λ slot. is_none slot) (drop start slots)) None) (passes_at_first (λ slot. is_none slot) (drop start slots) None (omega arith)) in
    rw (free_behind slots start number early within) (record {
      within = omega arith;
      free = rw (← get_or-drop start slots (position_or_len (λ slot. is_none slot) (drop start slots)) None) found;
    })

pub is_free_before : (slots : List (Option ℕ)) (start : ℕ) → length slots ≡ 256 → start < 256 → 256 - start ≤ position_or_len (λ slot. is_none slot) (drop start slots) → 0 < count_by (λ slot. is_none slot) (take start slots) → IsFree slots (first_free start slots)
is_free_before slots start number early past some =
    let size = length-take start slots in
    let there = some_passes (λ slot. is_none slot) (take start slots) some in
    let found = is_free (get_or (take start slots) (position_or_len (λ slot. is_none slot) (take start slots)) None) (passes_at_first (λ slot. is_none slot) (take start slots) None there) in
    let early_too : position_or_len (λ slot. is_none slot) (take start slots) < start = omega arith in
    rw (free_before slots start number early past) (record {
      within = omega arith;
      free = rw (← get_or-take start slots (position_or_len (λ slot. is_none slot) (take start slots)) None early_too) found;
    })

-- the first free slot is free, where one is
pub first_is_free : (slots : List (Option ℕ)) (start : ℕ) → length slots ≡ 256 → start < 256 → 0 < count_by (λ slot. is_none slot) slots → IsFree slots (first_free start slots)
first_is_free slots start number early some =
    ⊎_elim
    (λ within. is_free_behind slots start number early within)
    (λ past. is_free_before slots start number early past (free_in_front slots start number early some past))
    (cases_lt (position_or_len (λ slot. is_none slot) (drop start slots)) (256 - start))

-- a server takes a free slot: one fewer is free, and that server has one more
pub taken_free : (slots : List (Option ℕ)) (slot place : ℕ) → slot < length slots → get_or slots slot None ≡ None → count_by (λ slot. is_none slot) (set slots slot (Some place)) + 1 ≡ count_by (λ slot. is_none slot) slots
taken_free slots slot place within free =
    let whole = sum_by-set (λ (slot : Option ℕ). cond (is_none slot) 1 0) slots slot (Some place) None within in
    let here = rw free at whole in
    omega arith

pub taken_of : (slots : List (Option ℕ)) (slot place other : ℕ) → slot < length slots → get_or slots slot None ≡ None → count_by (is_of other) (set slots slot (Some place)) ≡ count_by (is_of other) slots + cond (place == other) 1 0
taken_of slots slot place other within free =
    let whole = sum_by-set (λ (slot : Option ℕ). cond (is_of other slot) 1 0) slots slot (Some place) None within in
    let here = rw free at whole in
    omega arith

pub taken_own : (slots : List (Option ℕ)) (slot place : ℕ) → slot < length slots → get_or slots slot None ≡ None → count_by (is_of place) (set slots slot (Some place)) ≡ count_by (is_of place) slots + 1
taken_own slots slot place within free =
    let whole = taken_of slots slot place place within free in
    let same = eq-eqb place place refl in
    let here = rw same at whole in
    here
