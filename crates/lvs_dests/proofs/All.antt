-- All that the slab holds: counted, and those in the trash in order of their ids.
use Rattle.std.proofs.Common.{◌≡◌, ℕ, ◌+◌, ◌≤◌, ◌==◌, Bool, true, false, not, cond, refl, sym, ap, subst, ◌∙◌, List, [], ◌∷◌, Option, Some, None, is_some, map, filter_map, length, count_by, nat_le, arith}
use Rattle.std.specs.List.{AllByRecursion, cons_option, filter, list_any}
use Rattle.std.proofs.lemmas.Bool.{eqb-true}
use Rattle.std.proofs.lemmas.List.{length-map}
use Rattle.std.proofs.lemmas.List.Sums.{sum_by-cons}
use Rattle.slab.specs.Slab.{entries_from}
use Rattle.slab.proofs.SlabLemmas.{length-entries_from}
use Rattle.lvs_types.specs.declared.dest.DestRow.{DestRow}
use Rattle.lvs_model.specs.Lists.{insert_by, sorted_by}
use Rattle.lvs_model.proofs.OrderLemmas.{length_sorted, count_sorted, count_filter, count_zero, filter_sorted, sorted_up, strict_from, same_strict, has_sorted, from_sorted}
use Rattle.lvs_dests.specs.declared.slots.Slot.{Slot}
use Rattle.lvs_dests.specs.Rows.{has_row_id, is_row_trashed}
use Rattle.lvs_dests.specs.Pool.{DifferInId, rows_in, trashed_row_in}
use Rattle.lvs_dests.proofs.Occupied.{held_by}
use Rattle.lvs_dests.proofs.Listed.{neither}

-- the values of the entries are what the slots hold
values_held : (key : ℕ) (slots : List (Option Slot)) → map (λ (entry : ℕ × Slot). entry.1) (entries_from key slots) ≡ held_by slots
values_held key [] = refl
values_held key (None ∷ slots) = values_held (key + 1) slots
values_held key (Some slot ∷ slots) = ap (λ (xs : List Slot). slot ∷ xs) (values_held (key + 1) slots)

-- so many slots hold a server as there are servers
pub count_rows : (slots : List (Option Slot)) → count_by is_some slots ≡ length (rows_in slots)
count_rows slots =
    sym (length-entries_from 0 slots)
    ∙ sym (length-map (entries_from 0 slots) (λ (entry : ℕ × Slot). entry.1))
    ∙ ap (λ (xs : List Slot). length xs) (values_held 0 slots)
    ∙ sym (length_sorted (λ (slot : Slot). slot.sequence) (held_by slots))
    ∙ sym (length-map (sorted_by (λ (slot : Slot). slot.sequence) (held_by slots)) (λ (slot : Slot). slot.row))

-- ---- in order of another number

insert_over : {X Y : Type 0} (h : X → Y) (number : Y → ℕ) (x y : X) (ys rest : List X) (inserted : List Y) (b : Bool) → map h rest ≡ inserted → map h (cond b (x ∷ y ∷ ys) (y ∷ rest)) ≡ cond b (h x ∷ h y ∷ map h ys) (h y ∷ inserted)
insert_over h number x y ys rest inserted true later = refl
insert_over h number x y ys rest inserted false later = ap (λ zs. h y ∷ zs) later

map_insert : {X Y : Type 0} (h : X → Y) (number : Y → ℕ) (x : X) (ys : List X) → map h (insert_by (λ z. number (h z)) x ys) ≡ insert_by number (h x) (map h ys)
map_insert h number x [] = refl
map_insert h number x (y ∷ ys) = insert_over h number x y ys (insert_by (λ z. number (h z)) x ys) (insert_by number (h x) (map h ys)) (nat_le (number (h x)) (number (h y))) (map_insert h number x ys)

-- the values of what is sorted by a number of its value are sorted by it
pub map_over : {X Y : Type 0} (h : X → Y) (number : Y → ℕ) (xs : List X) → map h (sorted_by (λ z. number (h z)) xs) ≡ sorted_by number (map h xs)
map_over h number [] = refl
map_over h number (x ∷ xs) = map_insert h number x (sorted_by (λ z. number (h z)) xs) ∙ ap (insert_by number (h x)) (map_over h number xs)

-- where no two have one number the order in which they stood doesn't matter
resorted : {X : Type 0} (number first : X → ℕ) (xs : List X) → ((n : ℕ) → count_by (λ x. number x == n) xs ≤ 1) → sorted_by number (sorted_by first xs) ≡ sorted_by number xs
resorted number first xs once =
    same_strict number (sorted_by number (sorted_by first xs)) (sorted_by number xs)
    (strict_from number (sorted_by number (sorted_by first xs)) (sorted_up number (sorted_by first xs))
    (λ n. let outer = count_sorted number (λ x. number x == n) (sorted_by first xs) in let inner = count_sorted first (λ x. number x == n) xs in let few = once n in omega arith))
    (strict_from number (sorted_by number xs) (sorted_up number xs) (λ n. let same = count_sorted number (λ x. number x == n) xs in let few = once n in omega arith))
    (λ x has. has_sorted number x xs (from_sorted first x xs (from_sorted number x (sorted_by first xs) has)))
    (λ x has. has_sorted number x (sorted_by first xs) (has_sorted first x xs (from_sorted number x xs has)))

-- ---- each id is there once

none_has : (p : DestRow → Bool) (rows : List DestRow) → list_any p rows ≡ false → AllByRecursion (λ row. p row ≡ false) rows
none_has p [] none = tt
none_has p (row ∷ rows) none = let parts = neither (p row) (list_any p rows) none in (parts.0, none_has p rows parts.1)

abbrev is_at : ℕ → DestRow → Bool
is_at n row = row.dest.id.0 == n

once_by : (n : ℕ) (row : DestRow) (rows : List DestRow) (b : Bool) → is_at n row ≡ b → list_any (has_row_id row.dest.id) rows ≡ false → count_by (is_at n) rows ≤ 1 → cond {A = ℕ} b 1 0 + count_by (is_at n) rows ≤ 1
once_by n row rows false is apart few = omega (arith, few)
once_by n row rows true is apart few =
    let same : row.dest.id.0 ≡ n = eqb-true row.dest.id.0 n is in
    let none : count_by (is_at n) rows ≡ 0 = subst (λ (m : ℕ). count_by (is_at m) rows ≡ 0) same (count_zero (is_at row.dest.id.0) rows (none_has (has_row_id row.dest.id) rows apart)) in
    omega (arith, none)

rows_once : (n : ℕ) (rows : List DestRow) → DifferInId rows → count_by (is_at n) rows ≤ 1
rows_once n [] apart = omega arith
rows_once n (row ∷ rows) apart =
    let counted = sum_by-cons (λ (x : DestRow). cond {A = ℕ} (is_at n x) 1 0) row rows in
    let few = once_by n row rows (is_at n row) refl apart.0 (rows_once n rows apart.1) in
    omega (arith, counted, few)

count_over : {X Y : Type 0} (h : X → Y) (p : Y → Bool) (xs : List X) → count_by p (map h xs) ≡ count_by (λ x. p (h x)) xs
count_over h p [] = refl
count_over h p (x ∷ xs) =
    let one = sum_by-cons (λ y. cond {A = ℕ} (p y) 1 0) (h x) (map h xs) in
    let other = sum_by-cons (λ y. cond {A = ℕ} (p (h y)) 1 0) x xs in
    let rest = count_over h p xs in
    omega (arith, one, other, rest)

filter_by : {X Y : Type 0} (h : X → Y) (x : X) (b : Bool) (ys : List Y) (xs : List X) → ys ≡ map h xs → cond b (h x ∷ ys) ys ≡ map h (cond b (x ∷ xs) xs)
filter_by h x true ys xs rest = ap (λ zs. h x ∷ zs) rest
filter_by h x false ys xs rest = rest

filter_over : {X Y : Type 0} (h : X → Y) (p : Y → Bool) (xs : List X) → filter p (map h xs) ≡ map h (filter (λ x. p (h x)) xs)
filter_over h p [] = refl
filter_over h p (x ∷ xs) = filter_by h x (p (h x)) (filter p (map h xs)) (filter (λ y. p (h y)) xs) (filter_over h p xs)

-- ---- those in the trash

abbrev row_in : Slot → DestRow
row_in slot = slot.row

abbrev id_of : Slot → ℕ
id_of slot = slot.row.dest.id.0

abbrev sequence_of : Slot → ℕ
sequence_of slot = slot.sequence

trashed_by : (slot : Slot) (b : Bool) (rows : List DestRow) (slots : List Slot) → rows ≡ map row_in slots → cons_option (cond b None (Some slot.row)) rows ≡ map row_in (cond (not b) (slot ∷ slots) slots)
trashed_by slot true rows slots rest = rest
trashed_by slot false rows slots rest = ap (λ (rs : List DestRow). slot.row ∷ rs) rest

trashed_held : (slots : List (Option Slot)) → filter_map trashed_row_in slots ≡ map row_in (filter (λ (s : Slot). is_row_trashed s.row) (held_by slots))
trashed_held [] = refl
trashed_held (None ∷ slots) = trashed_held slots
trashed_held (Some slot ∷ slots) = trashed_by slot slot.row.dest.live (filter_map trashed_row_in slots) (filter (λ (s : Slot). is_row_trashed s.row) (held_by slots)) (trashed_held slots)

-- each id is there once in the trash
pub trashed_once : (slots : List (Option Slot)) → DifferInId (rows_in slots) → (n : ℕ) → count_by (is_at n) (filter_map trashed_row_in slots) ≤ 1
trashed_once slots apart n =
    let rows : count_by (is_at n) (rows_in slots) ≤ 1 = rows_once n (rows_in slots) apart in
    let slotted = count_over row_in (is_at n) (sorted_by sequence_of (held_by slots)) in
    let sorted = count_sorted sequence_of (λ (s : Slot). is_at n s.row) (held_by slots) in
    let part = count_filter (λ (s : Slot). is_at n s.row) (λ (s : Slot). is_row_trashed s.row) (held_by slots) in
    let over = count_over row_in (is_at n) (filter (λ (s : Slot). is_row_trashed s.row) (held_by slots)) in
    let same = ap (count_by (is_at n)) (trashed_held slots) in
    omega (arith, rows, slotted, sorted, part, over, same)

-- in order of their ids they are those of the rows
pub trashed_sorted : (slots : List (Option Slot)) → DifferInId (rows_in slots) → sorted_by (λ (row : DestRow). row.dest.id.0) (filter_map trashed_row_in slots) ≡ sorted_by (λ (row : DestRow). row.dest.id.0) (filter is_row_trashed (rows_in slots))
trashed_sorted slots apart =
    let kept = filter (λ (s : Slot). is_row_trashed s.row) (held_by slots) in
    ap (sorted_by (λ (row : DestRow). row.dest.id.0)) (trashed_held slots)
    ∙ sym (map_over row_in (λ (row : DestRow). row.dest.id.0) kept)
    ∙ ap (map row_in) (sym (resorted id_of sequence_of kept (λ n. once n)))
    ∙ map_over row_in (λ (row : DestRow). row.dest.id.0) (sorted_by sequence_of kept)
    ∙ ap (λ (ss : List Slot). sorted_by (λ (row : DestRow). row.dest.id.0) (map row_in ss)) (sym (filter_sorted sequence_of (λ (s : Slot). is_row_trashed s.row) (held_by slots)))
    ∙ ap (sorted_by (λ (row : DestRow). row.dest.id.0)) (sym (filter_over row_in is_row_trashed (sorted_by sequence_of (held_by slots))))
  where
    once : (n : ℕ) → count_by (λ (s : Slot). id_of s == n) (filter (λ (s : Slot). is_row_trashed s.row) (held_by slots)) ≤ 1
    once n =
        let few = trashed_once slots apart n in
        let over = count_over row_in (is_at n) (filter (λ (s : Slot). is_row_trashed s.row) (held_by slots)) in
        let same = ap (count_by (is_at n)) (trashed_held slots) in
        omega (arith, few, over, same)
