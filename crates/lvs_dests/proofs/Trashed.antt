-- The ids in the trash: collected from the slots, and in order.
use Rattle.std.proofs.Common.{◌≡◌, ◌≢◌, ℕ, zero, suc, ◌+◌, ◌<◌, Bool, true, false, ◌&&◌, ◌||◌, not, cond, eqb, refl, sym, ap, ◌∙◌, subst, List, [], ◌∷◌, ◌++◌, Option, Some, None, map, filter_map, length, take, arith}
use Rattle.std.specs.List.{AllByRecursion, list_any, cons_option, IsDistinct}
use Rattle.std.specs.List.Sorted.{IsPermutation, IsNonDecreasing, IsNonDecreasingBy}
use Rattle.std.proofs.lemmas.List.{get_or-map, length-map}
use Rattle.std.proofs.lemmas.List.Sorted.{list_any-IsPermutation}
use Rattle.std.proofs.lemmas.Bool.Decides.{nat_tests}
use Rattle.std.proofs.lemmas.Map.Keys.{IsDistinct-IsPermutation, IsStrictlyIncreasing-from_distinct}
use Rattle.lvs_types.specs.declared.addr.DestId.{DestId}
use Rattle.lvs_types.specs.declared.dest.DestRow.{DestRow}
use Rattle.lvs_model.specs.Same.{dest_id_eq}
use Rattle.lvs_dests.specs.declared.slots.Slot.{Slot}
use Rattle.lvs_dests.specs.Rows.{has_row_id, is_trashed, IsTrashOf}
use Rattle.lvs_dests.specs.Pool.{IsIndex, rows_in, id_in, trashed_in, trashed_row_in, trashed_of}
use Rattle.lvs_dests.proofs.Same.{decide_id, apart_ids}
use Rattle.lvs_dests.proofs.Index.{index_one}
use Rattle.lvs_dests.proofs.Occupied.{held_by, at_key}
use Rattle.lvs_dests.proofs.Found.{SlotsApart, held_apart, rows_any, all_map}

-- ---- one slot more

cons_append : {X : Type 0} (o p : Option X) (xs : List X) → cons_option o (xs ++ cons_option p []) ≡ cons_option o xs ++ cons_option p []
cons_append None p xs = refl
cons_append (Some x) p xs = refl

-- what one slot more adds to what is taken of the slots
pub taken_more : {X : Type 0} (h : Option Slot → Option X) → h None ≡ None → (slots : List (Option Slot)) (key : ℕ) → filter_map h (take (suc key) slots) ≡ filter_map h (take key slots) ++ cons_option (h (at_key slots key)) []
taken_more h none [] zero = sym (ap (λ o. cons_option o []) none)
taken_more h none [] (suc key) = sym (ap (λ o. cons_option o []) none)
taken_more h none (slot ∷ slots) zero = refl
taken_more h none (slot ∷ slots) (suc key) =
    ap (cons_option (h slot)) (taken_more h none slots key) ∙ cons_append (h slot) (h (at_key slots key)) (filter_map h (take key slots))

pub trashed_next : (slots : List (Option Slot)) (key : ℕ) (ids new : List DestId) (o : Option DestId) → ids ≡ trashed_of (take key slots) → o ≡ trashed_in (at_key slots key) → new ≡ ids ++ cons_option o [] → new ≡ trashed_of (take (key + 1) slots)
trashed_next slots key ids new o so_far is after =
    let one : key + 1 ≡ suc key = omega arith in
    after ∙ ap (λ (xs : List DestId). xs ++ cons_option o []) so_far ∙ ap (λ (p : Option DestId). trashed_of (take key slots) ++ cons_option p []) is
    ∙ sym (taken_more trashed_in refl slots key) ∙ ap (λ (n : ℕ). trashed_of (take n slots)) (sym one)

pub rows_next : (slots : List (Option Slot)) (key : ℕ) (rows new : List DestRow) (o : Option DestRow) → rows ≡ filter_map trashed_row_in (take key slots) → o ≡ trashed_row_in (at_key slots key) → new ≡ rows ++ cons_option o [] → new ≡ filter_map trashed_row_in (take (key + 1) slots)
rows_next slots key rows new o so_far is after =
    let one : key + 1 ≡ suc key = omega arith in
    after ∙ ap (λ (xs : List DestRow). xs ++ cons_option o []) so_far ∙ ap (λ (p : Option DestRow). filter_map trashed_row_in (take key slots) ++ cons_option p []) is
    ∙ sym (taken_more trashed_row_in refl slots key) ∙ ap (λ (n : ℕ). filter_map trashed_row_in (take n slots)) (sym one)

-- ---- those of the rows

from_held : (slots : List (Option Slot)) → trashed_of slots ≡ filter_map (λ (s : Slot). cond s.row.dest.live None (Some (id_in s))) (held_by slots)
from_held [] = refl
from_held (None ∷ slots) = from_held slots
from_held (Some slot ∷ slots) = ap (cons_option (cond slot.row.dest.live None (Some (id_in slot)))) (from_held slots)

any_by : (id : DestId) (slot : Slot) (ids : List DestId) (live rest : Bool) → list_any (λ other. dest_id_eq other id) ids ≡ rest → list_any (λ other. dest_id_eq other id) (cons_option (cond live None (Some (id_in slot))) ids) ≡ ((not live && has_row_id id slot.row) || rest)
any_by id slot ids true rest is = is
any_by id slot ids false rest is = ap (λ t. has_row_id id slot.row || t) is

any_held : (id : DestId) (slots : List Slot) → list_any (λ other. dest_id_eq other id) (filter_map (λ (s : Slot). cond s.row.dest.live None (Some (id_in s))) slots) ≡ list_any (λ (s : Slot). is_trashed id s.row) slots
any_held id [] = refl
any_held id (slot ∷ slots) =
    any_by id slot (filter_map (λ (s : Slot). cond s.row.dest.live None (Some (id_in s))) slots) slot.row.dest.live (list_any (λ (s : Slot). is_trashed id s.row) slots) (any_held id slots)

trashed_members : (slots : List (Option Slot)) (id : DestId) → list_any (λ other. dest_id_eq other id) (trashed_of slots) ≡ list_any (is_trashed id) (rows_in slots)
trashed_members slots id = ap (list_any (λ other. dest_id_eq other id)) (from_held slots) ∙ any_held id (held_by slots) ∙ sym (rows_any (is_trashed id) slots)

-- ---- no two are the same

away_by : (id : DestId) (slot : Slot) (ids : List DestId) (live : Bool) → id_in slot ≢ id → AllByRecursion (λ other. dest_id_eq id other ≡ false) ids → AllByRecursion (λ other. dest_id_eq id other ≡ false) (cons_option (cond live None (Some (id_in slot))) ids)
away_by id slot ids true away all = all
away_by id slot ids false away all = (apart_ids id (id_in slot) (λ same. away (sym same)), all)

away_all : (id : DestId) (slots : List Slot) → AllByRecursion (λ (s : Slot). id_in s ≢ id) slots → AllByRecursion (λ other. dest_id_eq id other ≡ false) (filter_map (λ (s : Slot). cond s.row.dest.live None (Some (id_in s))) slots)
away_all id [] all = tt
away_all id (slot ∷ slots) all = away_by id slot (filter_map (λ (s : Slot). cond s.row.dest.live None (Some (id_in s))) slots) slot.row.dest.live all.0 (away_all id slots all.1)

distinct_by : (slot : Slot) (ids : List DestId) (live : Bool) → AllByRecursion (λ other. dest_id_eq (id_in slot) other ≡ false) ids → IsDistinct dest_id_eq ids → IsDistinct dest_id_eq (cons_option (cond live None (Some (id_in slot))) ids)
unfolding IsDistinct
distinct_by slot ids true all rest = rest
distinct_by slot ids false all rest = (all, rest)

distinct_held : (slots : List Slot) → SlotsApart id_in slots → IsDistinct dest_id_eq (filter_map (λ (s : Slot). cond s.row.dest.live None (Some (id_in s))) slots)
unfolding IsDistinct
distinct_held [] apart = tt
distinct_held (slot ∷ slots) apart =
    distinct_by slot (filter_map (λ (s : Slot). cond s.row.dest.live None (Some (id_in s))) slots) slot.row.dest.live (away_all (id_in slot) slots apart.0) (distinct_held slots apart.1)

numbers_distinct : (ids : List DestId) → IsDistinct dest_id_eq ids → IsDistinct eqb (map (λ (id : DestId). id.0) ids)
unfolding IsDistinct
numbers_distinct [] distinct = tt
numbers_distinct (id ∷ ids) distinct = (all_map (λ (i : DestId). i.0) (λ n. eqb id.0 n ≡ false) ids distinct.0, numbers_distinct ids distinct.1)

same_flip : (a b : DestId) → dest_id_eq a b ≡ dest_id_eq b a
same_flip a b = flip a.0 b.0
  where
    flip : (m n : ℕ) → eqb m n ≡ eqb n m
    flip m n = grind (arith, nat_tests)

in_order : (ids : List DestId) → IsNonDecreasingBy (λ (id : DestId). id.0) ids → IsNonDecreasing (map (λ (id : DestId). id.0) ids)
in_order ids rises i j d le within =
    let long = length-map ids (λ (id : DestId). id.0) in
    let last : j < length ids = omega (arith, long) in
    let first : i < length ids = omega (arith, long) in
    let here = get_or-map (λ (id : DestId). id.0) ids i (record { 0 = d }) d first in
    let there = get_or-map (λ (id : DestId). id.0) ids j (record { 0 = d }) d last in
    let more = rises i j (record { 0 = d }) le last in
    omega (arith, here, there, more)

-- what was collected, in order
pub is_trash : (key_of : DestId → Option ℕ) (slots : List (Option Slot)) (ids : List DestId) → IsIndex id_in key_of (at_key slots) → IsPermutation (trashed_of slots) ids → IsNonDecreasingBy (λ (id : DestId). id.0) ids → IsTrashOf (rows_in slots) ids
is_trash key_of slots ids index perm rises =
    let apart = held_apart id_in slots (λ key other slot x here there same. index_one decide_id id_in key_of (at_key slots) index key other slot x here there same) in
    let distinct : IsDistinct dest_id_eq (trashed_of slots) = subst (IsDistinct dest_id_eq) (sym (from_held slots)) (distinct_held (held_by slots) apart) in
    record {
      rising = IsStrictlyIncreasing-from_distinct (map (λ (id : DestId). id.0) ids) (in_order ids rises) (numbers_distinct ids (IsDistinct-IsPermutation dest_id_eq same_flip (trashed_of slots) ids perm distinct));
      members = λ id. sym (list_any-IsPermutation (λ other. dest_id_eq other id) (trashed_of slots) ids perm) ∙ trashed_members slots id;
    }
