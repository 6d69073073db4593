-- What takers leave, counted.
use Rattle.std.proofs.Common.{◌≡◌, ℕ, ◌+◌, ◌<◌, ◌≤◌, true, cond, ◌==◌, List, [], ◌∷◌, length, slice_index_or, fold, count_by, Option, Some, None, is_none, is_some, refl, sym, ◌∙◌, arith, length-set, add-zero}
use Rattle.std.specs.List.{list_all}
use Rattle.std.proofs.Math.Nat.{mod-lt}
use Rattle.std.proofs.lemmas.List.Sums.{sum_by-cons}
use Rattle.lvs_types.specs.declared.addr.Addr.{Addr}
use Rattle.lvs_model.specs.MorePicks.{is_of, first_free, preferred, take_slot}
use Rattle.lvs_sched_more.proofs.FreeSlots.{first_is_free, taken_free, taken_of}

-- the slots after those at the places have each taken one, one after the other
pub record IsFilledBy (before : List (Option ℕ)) (places : List ℕ) (after : List (Option ℕ)) : Type 0 where
  pub number : length after ≡ 256
  pub free : count_by (λ slot. is_none slot) after + length places ≡ count_by (λ slot. is_none slot) before
  pub taken : (place : ℕ) → count_by (is_of place) after ≡ count_by (is_of place) before + count_by (λ p. p == place) places

pub filled_by_one : (addrs : List Addr) (slots : List (Option ℕ)) (place : ℕ) → length slots ≡ 256 → 0 < count_by (λ slot. is_none slot) slots → IsFilledBy slots (place ∷ []) (take_slot addrs slots place)
filled_by_one addrs slots place number some =
    let start = preferred (slice_index_or addrs place (record { number = 0 })) (count_by (is_of place) slots) in
    let early : start < 256 = mod-lt _ (omega arith) in
    let first = first_is_free slots start number early some in
    let within : first_free start slots < length slots = omega (arith, first.within) in
    record {
      number = length-set slots (first_free start slots) (Some place) ∙ number;
      free = taken_free slots (first_free start slots) place within first.free;
      taken = λ other. let own = taken_of slots (first_free start slots) place other within first.free in omega arith;
    }

pub filled_by : (addrs : List Addr) (slots : List (Option ℕ)) (places : List ℕ) → length slots ≡ 256 → length places ≤ count_by (λ slot. is_none slot) slots → IsFilledBy slots places (fold (take_slot addrs) slots places)
filled_by addrs slots [] number room = record { number = number; free = add-zero _; taken = λ place. sym (add-zero _) }
filled_by addrs slots (place ∷ places) number room =
    let one = filled_by_one addrs slots place number (omega arith) in
    let rest = filled_by addrs (take_slot addrs slots place) places one.number (omega (arith, one.free)) in
    record {
      number = rest.number;
      free = omega (arith, rest.free, one.free);
      taken = λ other. let whole = sum_by-cons (λ p. cond (p == other) 1 0) place places in omega (arith, rest.taken other, one.taken other);
    }

pub all_taken : (slots : List (Option ℕ)) → count_by (λ slot. is_none slot) slots ≡ 0 → list_all (λ slot. is_some slot) slots ≡ true
all_taken [] none = refl
all_taken (None ∷ slots) none = let whole = sum_by-cons (λ (slot : Option ℕ). cond (is_none slot) 1 0) None slots in absurd (omega arith)
all_taken (Some place ∷ slots) none = all_taken slots none
