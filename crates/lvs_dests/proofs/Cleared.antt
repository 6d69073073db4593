-- The walk in which all live servers leave their services.
use Rattle.std.proofs.Common.{◌≡◌, ◌≢◌, ℕ, ◌<◌, ◌≤◌, ◌+◌, inl, inr, Bool, true, false, cond, refl, sym, ap, ◌∙◌, subst, List, [], ◌∷◌, Option, Some, None, map, filter_map, arith, length, if◌then◌else◌}
use Rattle.std.specs.List.{cons_option, filter}
use Rattle.std.specs.Option.{option_map, option_and_then}
use Rattle.std.proofs.lemmas.Bool.{cases_lt, cases_eq}
use Rattle.std.proofs.lemmas.List.{get_or_past}
use Rattle.std.proofs.lemmas.Option.{none-some, same_Some}
use Rattle.lvs_types.specs.declared.service.ServiceKey.{ServiceKey}
use Rattle.lvs_types.specs.declared.dest.DestRow.{DestRow}
use Rattle.lvs_model.specs.Same.{service_key_eq}
use Rattle.lvs_model.specs.Lists.{sorted_by}
use Rattle.lvs_dests.specs.declared.place.ServiceName.{ServiceName}
use Rattle.lvs_dests.specs.declared.slots.Slot.{Slot}
use Rattle.lvs_dests.specs.declared.pool.Pool.{Pool}
use Rattle.lvs_dests.specs.declared.lists.Lists.{Lists}
use Rattle.lvs_dests.specs.Rows.{is_row_of, is_unnamed, out_of_service, left_row, left_live, all_left, candidate_of_row, candidates_of}
use Rattle.lvs_dests.specs.Lists.{list_at}
use Rattle.lvs_dests.specs.Pool.{IsWhole, rows_of, slot_at, left_slot}
use Rattle.lvs_dests.specs.Dests.{IsTied}
use Rattle.lvs_dests.proofs.Sorted.{sorted_kept}
use Rattle.lvs_dests.proofs.Occupied.{held_by, held_kept}
use Rattle.lvs_dests.proofs.Listed.{off_and}
use Rattle.lvs_dests.proofs.Tied.{AreBelow}

-- ---- the walk

-- what the walk has done when it comes to a key
pub record IsLeaving (start now : Pool) (key : ℕ) : Type 0 where
  pub whole : IsWhole now
  pub done : (other : ℕ) → other < key → slot_at now other ≡ option_and_then left_slot (slot_at start other)
  pub rest : (other : ℕ) → key ≤ other → slot_at now other ≡ slot_at start other

pub leaving_begins : (start : Pool) → IsWhole start → IsLeaving start start 0
leaving_begins start whole = record { whole = whole; done = λ other less. absurd (omega arith); rest = λ other more. refl }

pub leaving_goes : (start now after : Pool) (key : ℕ) → IsLeaving start now key → IsWhole after → slot_at after key ≡ option_and_then left_slot (slot_at now key) → ((other : ℕ) → other ≢ key → slot_at after other ≡ slot_at now other) → IsLeaving start after (key + 1)
leaving_goes start now after key so_far whole here others = record {
  whole = whole;
  done = λ other less. elim (cases_eq other key) [
    | inl same ↦ subst (λ (n : ℕ). slot_at after n ≡ option_and_then left_slot (slot_at start n)) (sym same) (here ∙ ap (option_and_then left_slot) (so_far.rest key (omega arith)))
    | inr away ↦ others other away ∙ so_far.done other (omega arith)
  ];
  rest = λ other more. others other (λ same. omega arith) ∙ so_far.rest other (omega arith);
}

-- ---- the rows then

abbrev with_row : ℕ → DestRow → Slot
with_row n row = record { row = row; sequence = n }

left_keeps : (n : ℕ) (o : Option DestRow) (y : Slot) → option_map (with_row n) o ≡ Some y → y.sequence ≡ n
left_keeps n None y is = absurd (none-some y is)
left_keeps n (Some row) y is = ap (λ (s : Slot). s.sequence) (sym (same_Some (with_row n row) y is))

left_by : (n : ℕ) (o : Option DestRow) (left : List Slot) (rows : List DestRow) → map (λ (s : Slot). s.row) left ≡ rows → map (λ (s : Slot). s.row) (cons_option (option_map (with_row n) o) left) ≡ cons_option o rows
left_by n None left rows rest = rest
left_by n (Some row) left rows rest = ap (λ (rs : List DestRow). row ∷ rs) rest

rows_left : (slots : List Slot) → map (λ (s : Slot). s.row) (filter_map left_slot slots) ≡ all_left (map (λ (s : Slot). s.row) slots)
rows_left [] = refl
rows_left (slot ∷ slots) = left_by slot.sequence (left_live slot.row) (filter_map left_slot slots) (all_left (map (λ (s : Slot). s.row) slots)) (rows_left slots)

each_left : (start now : Pool) (key : ℕ) → IsLeaving start now key → length start.slab.slots ≤ key → (other : ℕ) → slot_at now other ≡ option_and_then left_slot (slot_at start other)
each_left start now key so_far long other = elim (cases_lt other key) [
  | inl less ↦ so_far.done other less
  | inr more ↦
      let none : slot_at start other ≡ None = get_or_past start.slab.slots other None (omega arith) in
      so_far.rest other more ∙ none ∙ sym (ap (option_and_then left_slot) none)
]

pub leaving_ends : (start now : Pool) (key end : ℕ) → IsLeaving start now key → length start.slab.slots ≤ end → end ≤ key → rows_of now ≡ all_left (rows_of start)
leaving_ends start now key end so_far long ended =
    ap (λ (ss : List Slot). map (λ (s : Slot). s.row) (sorted_by (λ (s : Slot). s.sequence) ss)) (held_kept left_slot start.slab.slots now.slab.slots (each_left start now key so_far (omega arith)))
    ∙ ap (map (λ (s : Slot). s.row)) (sorted_kept (λ (s : Slot). s.sequence) left_slot (λ x y is. left_keeps x.sequence (left_live x.row) y is) (held_by start.slab.slots))
    ∙ rows_left (sorted_by (λ (s : Slot). s.sequence) (held_by start.slab.slots))

-- ---- no service has a server then

gone_by : (key : ServiceKey) (row : DestRow) (rest : List DestRow) (b : Bool) → candidates_of key rest ≡ [] → candidates_of key (cons_option (if b then None else Some (out_of_service row)) rest) ≡ []
gone_by key row rest true none = none
gone_by key row rest false none = none

none_by : (key : ServiceKey) (row : DestRow) (rest : List DestRow) (b : Bool) → row.dest.live ≡ b → candidates_of key rest ≡ [] → candidates_of key (cons_option (if b then left_row row else Some row) rest) ≡ []
none_by key row rest true is none = gone_by key row rest (is_unnamed row) none
none_by key row rest false is none = ap (λ (b : Bool). map candidate_of_row (cond b (row ∷ filter (is_row_of key) rest) (filter (is_row_of key) rest))) (off_and row.dest.live (service_key_eq row.dest.service key) is) ∙ none

none_served : (key : ServiceKey) (rows : List DestRow) → candidates_of key (all_left rows) ≡ []
none_served key [] = refl
none_served key (row ∷ rows) = none_by key row (all_left rows) row.dest.live refl (none_served key rows)

below_gone : (next : ℕ) (row : DestRow) (rest : List DestRow) (b : Bool) → row.dest.id.0 < next → AreBelow next rest → AreBelow next (cons_option (if b then None else Some (out_of_service row)) rest)
below_gone next row rest true here all = all
below_gone next row rest false here all = (here, all)

below_by : (next : ℕ) (row : DestRow) (rest : List DestRow) (b : Bool) → row.dest.id.0 < next → AreBelow next rest → AreBelow next (cons_option (if b then left_row row else Some row) rest)
below_by next row rest true here all = below_gone next row rest (is_unnamed row) here all
below_by next row rest false here all = (here, all)

below_left : (next : ℕ) (rows : List DestRow) → AreBelow next rows → AreBelow next (all_left rows)
below_left next [] all = tt
below_left next (row ∷ rows) all = below_by next row (all_left rows) row.dest.live all.0 (below_left next rows all.1)

pub tied_cleared : (pool pool' : Pool) (lists lists' : Lists) (next : ℕ) → IsTied pool lists next → IsWhole pool' → rows_of pool' ≡ all_left (rows_of pool) → ((n : ServiceName) → list_at lists' n ≡ []) → IsTied pool' lists' next
tied_cleared pool pool' lists lists' next tied whole rows empty = record {
  whole = whole;
  served = λ key. empty _ ∙ sym (ap (candidates_of key) rows ∙ none_served key (rows_of pool));
  below = subst (AreBelow next) (sym rows) (below_left next (rows_of pool) tied.below);
}
