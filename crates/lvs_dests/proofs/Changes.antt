-- What each change of the slots makes of the rows.
use Rattle.std.proofs.Common.{◌≡◌, ◌≢◌, ℕ, ◌<◌, inl, inr, Bool, true, false, cond, refl, sym, ap, ◌∙◌, subst, List, [], ◌∷◌, ◌++◌, Option, Some, None, map, filter_map, nat_lt, arith}
use Rattle.std.specs.List.{cons_option}
use Rattle.std.specs.Option.{option_map, option_and_then}
use Rattle.std.proofs.lemmas.Bool.{cases_eq}
use Rattle.std.proofs.lemmas.Bool.Decides.{nat_tests}
use Rattle.std.proofs.lemmas.Option.{none-some, same_Some}
use Rattle.lvs_types.specs.declared.addr.DestId.{DestId}
use Rattle.lvs_types.specs.declared.dest.DestRow.{DestRow}
use Rattle.lvs_model.specs.Lists.{sorted_by}
use Rattle.lvs_dests.specs.declared.slots.Slot.{Slot}
use Rattle.lvs_dests.specs.Rows.{has_row_id, replaced}
use Rattle.lvs_dests.specs.Pool.{Changed, IsIndex, rows_in, id_in}
use Rattle.lvs_dests.proofs.Same.{id_own, decide_id, apart_ids}
use Rattle.lvs_dests.proofs.Index.{index_one}
use Rattle.lvs_dests.proofs.Sorted.{sorted_kept}
use Rattle.lvs_dests.proofs.Occupied.{held_by, at_key, held_same, held_kept, held_all, held_put}

-- the same at each key
pub rows_same : (slots slots' : List (Option Slot)) → ((key : ℕ) → at_key slots' key ≡ at_key slots key) → rows_in slots' ≡ rows_in slots
rows_same slots slots' same = ap (λ ss. map (λ (s : Slot). s.row) (sorted_by (λ (s : Slot). s.sequence) ss)) (held_same slots slots' same)

-- ---- the slot of an id has another row, or is taken out

abbrev with_row : ℕ → DestRow → Slot
with_row n row = record { row = row; sequence = n }

abbrev swapped : DestId → Option DestRow → Slot → Option Slot
swapped id w slot = cond (has_row_id id slot.row) (option_map (with_row slot.sequence) w) (Some slot)

swapped_keeps : (w : Option DestRow) (slot y : Slot) (b : Bool) → cond b (option_map (with_row slot.sequence) w) (Some slot) ≡ Some y → y.sequence ≡ slot.sequence
swapped_keeps None slot y true e = absurd (none-some y e)
swapped_keeps (Some row) slot y true e = ap (λ (s : Slot). s.sequence) (sym (same_Some (with_row slot.sequence row) y e))
swapped_keeps w slot y false e = ap (λ (s : Slot). s.sequence) (sym (same_Some slot y e))

rows_by : (w : Option DestRow) (slot : Slot) (left : List Slot) (rows : List DestRow) (b : Bool) → map (λ (s : Slot). s.row) left ≡ rows → map (λ (s : Slot). s.row) (cons_option (cond b (option_map (with_row slot.sequence) w) (Some slot)) left) ≡ cons_option (cond b w (Some slot.row)) rows
rows_by None slot left rows true rest = rest
rows_by (Some row) slot left rows true rest = ap (λ rs. row ∷ rs) rest
rows_by w slot left rows false rest = ap (λ rs. slot.row ∷ rs) rest

rows_swapped : (id : DestId) (w : Option DestRow) (slots : List Slot) → map (λ (s : Slot). s.row) (filter_map (swapped id w) slots) ≡ replaced (has_row_id id) w (map (λ (s : Slot). s.row) slots)
rows_swapped id w [] = refl
rows_swapped id w (slot ∷ slots) =
    rows_by w slot (filter_map (swapped id w) slots) (replaced (has_row_id id) w (map (λ (s : Slot). s.row) slots)) (has_row_id id slot.row) (rows_swapped id w slots)

module _ (key_of : DestId → Option ℕ) (slots : List (Option Slot)) (index : IsIndex id_in key_of (at_key slots)) (slot : Slot) (at : ℕ) (there : at_key slots at ≡ Some slot) (w : Option DestRow) where
  swapped_here : swapped (id_in slot) w slot ≡ option_map (with_row slot.sequence) w
  swapped_here = ap (λ b. cond b (option_map (with_row slot.sequence) w) (Some slot)) (id_own (id_in slot))

  swapped_elsewhere : (key : ℕ) (o : Option Slot) → at_key slots key ≡ o → key ≢ at → o ≡ option_and_then (swapped (id_in slot) w) o
  swapped_elsewhere key None is differ = refl
  swapped_elsewhere key (Some x) is differ =
      let other : id_in x ≢ id_in slot = λ same. differ (index_one decide_id id_in key_of (at_key slots) index at key slot x there is same) in
      sym (ap (λ b. cond b (option_map (with_row x.sequence) w) (Some x)) (apart_ids (id_in x) (id_in slot) other))

  swapped_at : (slots' : List (Option Slot)) → Changed (at_key slots) (at_key slots') at (option_map (with_row slot.sequence) w) → (key : ℕ) → at_key slots' key ≡ option_and_then (swapped (id_in slot) w) (at_key slots key)
  swapped_at slots' s key = elim (cases_eq key at) [
    | inl same ↦
        subst (λ (n : ℕ). at_key slots' n ≡ option_and_then (swapped (id_in slot) w) (at_key slots n)) (sym same)
        (s.here ∙ sym (ap (option_and_then (swapped (id_in slot) w)) there ∙ swapped_here))
    | inr differ ↦ s.others key differ ∙ swapped_elsewhere key (at_key slots key) refl differ
  ]

  pub rows_replaced : (slots' : List (Option Slot)) → Changed (at_key slots) (at_key slots') at (option_map (with_row slot.sequence) w) → rows_in slots' ≡ replaced (has_row_id (id_in slot)) w (rows_in slots)
  rows_replaced slots' s =
      ap (λ ss. map (λ (s : Slot). s.row) (sorted_by (λ (s : Slot). s.sequence) ss)) (held_kept (swapped (id_in slot) w) slots slots' (swapped_at slots' s))
      ∙ ap (map (λ (s : Slot). s.row)) (sorted_kept (λ (s : Slot). s.sequence) (swapped (id_in slot) w) (λ x y e. swapped_keeps w x y (has_row_id (id_in slot) x.row) e) (held_by slots))
      ∙ rows_swapped (id_in slot) w (sorted_by (λ (s : Slot). s.sequence) (held_by slots))

-- ---- one is put into a vacant key

map_push : {X Y : Type 0} (f : X → Y) (xs : List X) (x : X) → map f (xs ++ x ∷ []) ≡ map f xs ++ f x ∷ []
map_push f [] x = refl
map_push f (y ∷ xs) x = ap (λ ys. f y ∷ ys) (map_push f xs x)

lower : (a b : ℕ) → a < b → nat_lt a b ≡ true
lower a b less = grind (arith, nat_tests)

pub rows_put : (slots slots' : List (Option Slot)) (slot : Slot) (at : ℕ) → at_key slots at ≡ None → Changed (at_key slots) (at_key slots') at (Some slot) → ((key : ℕ) (x : Slot) → at_key slots key ≡ Some x → x.sequence < slot.sequence) → rows_in slots' ≡ rows_in slots ++ slot.row ∷ []
rows_put slots slots' slot at vacant s recent =
    ap (map (λ (s : Slot). s.row))
    (held_put (λ (s : Slot). s.sequence) slot at slots slots' vacant s.here s.others
    (held_all (λ (x : Slot). nat_lt x.sequence slot.sequence ≡ true) slots (λ key x there. lower x.sequence slot.sequence (recent key x there))))
    ∙ map_push (λ (s : Slot). s.row) (sorted_by (λ (s : Slot). s.sequence) (held_by slots)) slot
