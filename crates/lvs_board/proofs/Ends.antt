-- An entry that leaves: the rows, and the servers with their overload.
use Rattle.std.proofs.Common.{◌≡◌, ◌+◌, ◌-◌, ◌<◌, ℕ, Bool, true, false, cond, not, List, [], ◌∷◌, Some, None, refl, sym, ap, ◌∙◌, map, arith, nat_eq}
use Rattle.std.specs.Option.{IfSome}
use Rattle.std.proofs.lemmas.Bool.Decides.{nat_tests}
use Rattle.std.specs.List.{AllByRecursion, IsDistinct, count_by, find}
use Rattle.lvs_types.specs.declared.addr.DestId.{DestId}
use Rattle.lvs_types.specs.declared.dest.Dest.{Dest}
use Rattle.lvs_types.specs.declared.dest.DestRow.{DestRow}
use Rattle.lvs_types.specs.declared.entry.Entry.{Entry}
use Rattle.lvs_types.specs.declared.template.Template.{Template}
use Rattle.lvs_model.specs.Same.{dest_eq}
use Rattle.lvs_model.specs.Lists.{update_first, without}
use Rattle.lvs_model.specs.Timeouts.{is_active}
use Rattle.lvs_model.specs.Overload.{overload_ended}
use Rattle.lvs_model.specs.Counts.{row_of, counts_active, counts_inactive, active, inactive, total, template_count}
use Rattle.lvs_model.specs.Binding.{count_ended}
use Rattle.lvs_model.specs.Lookups.{has_dest_id, has_entry_id}
use Rattle.lvs_model.specs.WellFormed.{entry_ids, dest_ids}
use Rattle.lvs_dests.specs.Rows.{changed, ended, named, has_row_id, row_at}
use Rattle.lvs_board.proofs.Counts.{one_if, count_cons}
use Rattle.lvs_well_formed.proofs.Keys.{dest_id_true}
use Rattle.lvs_well_formed.proofs.Lists.{find_passes, all_weaker, all_unmap}
use Rattle.lvs_well_formed.proofs.Distinct.{distinct_parts}
use Rattle.lvs_dests.specs.Rows.{dests_of}
use Rattle.lvs_board.proofs.Rows.{rows_changed, rows_same, one_both, here_by, row_with}

-- LISTS WHOSE NUMBERS ARE APART

-- once one has an id, no later one has it
others_differ : {X : Type 0} (n : X → ℕ) (x : X) (xs : List X) (id : ℕ) → nat_eq (n x) id ≡ true → AllByRecursion (λ k. nat_eq (n x) k ≡ false) (map n xs) → AllByRecursion (λ y. nat_eq (n y) id ≡ false) xs
others_differ n x xs id same apart =
    all_weaker (λ y. nat_eq (n x) (n y) ≡ false) (λ y. nat_eq (n y) id ≡ false) xs (λ y differs. grind (arith, nat_tests)) (all_unmap (λ k. nat_eq (n x) k ≡ false) n xs apart)

none_leaves : {X : Type 0} (p : X → Bool) (xs : List X) → AllByRecursion (λ x. p x ≡ false) xs → without p xs ≡ xs
none_leaves p [] none = refl
none_leaves p (x ∷ xs) none = rw none.0 (ap (λ rest. x ∷ rest) (none_leaves p xs none.1))

none_changed : {X : Type 0} (p : X → Bool) (f : X → X) (xs : List X) → AllByRecursion (λ x. p x ≡ false) xs → map (λ x. cond (p x) (f x) x) xs ≡ xs
none_changed p f [] none = refl
none_changed p f (x ∷ xs) none = rw none.0 (ap (λ rest. x ∷ rest) (none_changed p f xs none.1))

leave_step : {X : Type 0} (q : X → Bool) (n : X → ℕ) (id : ℕ) (x y : X) (b : Bool) (ys : List X) → nat_eq (n y) id ≡ b → AllByRecursion (λ k. nat_eq (n y) k ≡ false) (map n ys) → cond b (Some y) (find (λ z. nat_eq (n z) id) ys) ≡ Some x
    → (find (λ z. nat_eq (n z) id) ys ≡ Some x → count_by q (without (λ z. nat_eq (n z) id) ys) + one_if (q x) ≡ count_by q ys)
    → count_by q (cond (not b) (y ∷ without (λ z. nat_eq (n z) id) ys) (without (λ z. nat_eq (n z) id) ys)) + one_if (q x) ≡ count_by q (y ∷ ys)
leave_step q n id x y true ys is apart found rest =
    let same : y ≡ x = cc in
    let none = none_leaves (λ z. nat_eq (n z) id) ys (others_differ n y ys id is apart) in
    omega (arith, count_cons q y ys, ap (λ z. one_if (q z)) same, ap (count_by q) none)
leave_step q n id x y false ys is apart found rest = omega (arith, count_cons q y ys, count_cons q y (without (λ z. nat_eq (n z) id) ys), rest found)

-- one that leaves counts no longer, and no other one leaves
pub count_leave : {X : Type 0} (q : X → Bool) (n : X → ℕ) (id : ℕ) (x : X) (xs : List X) → IsDistinct nat_eq (map n xs) → find (λ z. nat_eq (n z) id) xs ≡ Some x → count_by q (without (λ z. nat_eq (n z) id) xs) + one_if (q x) ≡ count_by q xs
count_leave q n id x [] apart found = absurd cc
count_leave q n id x (y ∷ ys) apart found =
    let parts = distinct_parts nat_eq (n y) (map n ys) apart in
    leave_step q n id x y (nat_eq (n y) id) ys refl parts.0 found (λ later. count_leave q n id x ys parts.1 later)

all_step : {X : Type 0} (n : X → ℕ) (id : ℕ) (f : X → X) (y : X) (b : Bool) (ys updated : List X) → nat_eq (n y) id ≡ b → AllByRecursion (λ k. nat_eq (n y) k ≡ false) (map n ys) → updated ≡ map (λ z. cond (nat_eq (n z) id) (f z) z) ys
    → cond b (f y ∷ ys) (y ∷ updated) ≡ cond b (f y) y ∷ map (λ z. cond (nat_eq (n z) id) (f z) z) ys
all_step n id f y true ys updated is apart rest = ap (λ zs. f y ∷ zs) (sym (none_changed (λ z. nat_eq (n z) id) f ys (others_differ n y ys id is apart)))
all_step n id f y false ys updated is apart rest = ap (λ zs. y ∷ zs) rest

-- the first one of an id is each one of it
pub update_all : {X : Type 0} (n : X → ℕ) (id : ℕ) (f : X → X) (xs : List X) → IsDistinct nat_eq (map n xs) → update_first (λ z. nat_eq (n z) id) f xs ≡ map (λ z. cond (nat_eq (n z) id) (f z) z) xs
update_all n id f [] apart = refl
update_all n id f (y ∷ ys) apart =
    let parts = distinct_parts nat_eq (n y) (map n ys) apart in
    all_step n id f y (nat_eq (n y) id) ys (update_first (λ z. nat_eq (n z) id) f ys) refl parts.0 (update_all n id f ys parts.1)

pub map_twice : {X Y Z : Type 0} (g : Y → Z) (f : X → Y) (xs : List X) → map g (map f xs) ≡ map (λ x. g (f x)) xs
map_twice g f [] = refl
map_twice g f (x ∷ xs) = ap (λ rest. g (f x) ∷ rest) (map_twice g f xs)

pub dests_of_rows : (es : List Entry) (ts : List Template) (ds : List Dest) → dests_of (map (row_of es ts) ds) ≡ ds
dests_of_rows es ts [] = refl
dests_of_rows es ts (d ∷ ds) = ap (λ (rest : List Dest). d ∷ rest) (dests_of_rows es ts ds)

-- THE ROWS

abbrev ended_made : Dest → ℕ → ℕ → ℕ → DestRow
ended_made d a i t = record { dest = record d { overloaded = overload_ended d.spec (a + i) d.overloaded }; active = a; inactive = i; templates = t }

ended_same : (d : Dest) (a b i j t : ℕ) → a ≡ b → i ≡ j → ended_made d a i t ≡ ended_made d b j t
ended_same d a b i j t same_active same_inactive = ap (λ n. ended_made d n i t) same_active ∙ ap (λ n. ended_made d b n t) same_inactive

abbrev plain_made : Dest → ℕ → ℕ → ℕ → DestRow
plain_made d a i t = record { dest = d; active = a; inactive = i; templates = t }

plain_same : (d : Dest) (a b i j t : ℕ) → a ≡ b → i ≡ j → plain_made d a i t ≡ plain_made d b j t
plain_same d a b i j t same_active same_inactive = ap (λ n. plain_made d n i t) same_active ∙ ap (λ n. plain_made d b n t) same_inactive

abbrev relieved_at : DestId → List Entry → Dest → Dest
relieved_at id left d = record d { overloaded = overload_ended d.spec (total id left) d.overloaded }

abbrev pub left_by : Entry → List Entry → List Entry
left_by x es = without (has_entry_id x.id) es

pub count_left : (q : Entry → Bool) (es : List Entry) (x : Entry) → IsDistinct nat_eq (entry_ids es) → find (has_entry_id x.id) es ≡ Some x → count_by q (left_by x es) + one_if (q x) ≡ count_by q es
count_left q es x apart found = count_leave q (λ (e : Entry). e.id) x.id x es apart found

end_point : (es : List Entry) (ts : List Template) (x : Entry) (d : Dest) (here b : Bool) → IsDistinct nat_eq (entry_ids es) → find (has_entry_id x.id) es ≡ Some x → dest_eq x.server d.id ≡ here → is_active x.state ≡ b
    → cond here (ended b (row_of es ts d)) (row_of es ts d) ≡ row_of (left_by x es) ts (cond here (relieved_at d.id (left_by x es) d) d)
end_point es ts x d true true apart found old is =
    let a = count_left (counts_active d.id) es x apart found in
    let i = count_left (counts_inactive d.id) es x apart found in
    let ax = one_both (dest_eq x.server d.id) (is_active x.state) true true old is in
    let ix = one_both (dest_eq x.server d.id) (not (is_active x.state)) true false old (ap not is) in
    ended_same d (active d.id es - 1) (active d.id (left_by x es)) (inactive d.id es) (inactive d.id (left_by x es)) (template_count d.id ts) (omega (arith, a, ax)) (omega (arith, i, ix))
end_point es ts x d true false apart found old is =
    let a = count_left (counts_active d.id) es x apart found in
    let i = count_left (counts_inactive d.id) es x apart found in
    let ax = one_both (dest_eq x.server d.id) (is_active x.state) true false old is in
    let ix = one_both (dest_eq x.server d.id) (not (is_active x.state)) true true old (ap not is) in
    ended_same d (active d.id es) (active d.id (left_by x es)) (inactive d.id es - 1) (inactive d.id (left_by x es)) (template_count d.id ts) (omega (arith, a, ax)) (omega (arith, i, ix))
end_point es ts x d false b apart found old is =
    let a = count_left (counts_active d.id) es x apart found in
    let i = count_left (counts_inactive d.id) es x apart found in
    let ax = one_both (dest_eq x.server d.id) (is_active x.state) false b old is in
    let ix = one_both (dest_eq x.server d.id) (not (is_active x.state)) false (not b) old (ap not is) in
    plain_same d (active d.id es) (active d.id (left_by x es)) (inactive d.id es) (inactive d.id (left_by x es)) (template_count d.id ts) (omega (arith, a, ax)) (omega (arith, i, ix))

relieve_by : (id : DestId) (left : List Entry) (d : Dest) (here : Bool) → has_dest_id id d ≡ here → cond here (relieved_at d.id left d) d ≡ cond here (relieved_at id left d) d
relieve_by id left d true is = ap (λ (named : DestId). relieved_at named left d) (dest_id_true d.id id is)
relieve_by id left d false is = refl

-- the rows after an entry has left its server
pub ended_rows : (es : List Entry) (ts : List Template) (x : Entry) (id : DestId) (ds : List Dest) → IsDistinct nat_eq (entry_ids es) → IsDistinct nat_eq (dest_ids ds) → find (has_entry_id x.id) es ≡ Some x → x.server ≡ Some id
    → changed (has_row_id id) (ended (is_active x.state)) (map (row_of es ts) ds) ≡ map (row_of (left_by x es) ts) (count_ended (Some id) (left_by x es) ds)
ended_rows es ts x id ds apart dests_apart found names =
    rows_changed (has_row_id id) (ended (is_active x.state)) (row_of es ts) (λ d. row_of (left_by x es) ts (cond (has_dest_id id d) (relieved_at id (left_by x es) d) d)) ds
    (λ d. end_point es ts x d (has_dest_id id d) (is_active x.state) apart found (here_by x.server id d names) refl ∙ ap (row_of (left_by x es) ts) (relieve_by id (left_by x es) d (has_dest_id id d) refl))
    ∙ sym (map_twice (row_of (left_by x es) ts) (λ (d : Dest). cond (has_dest_id id d) (relieved_at id (left_by x es) d) d) ds)
    ∙ sym (ap (map (row_of (left_by x es) ts)) (update_all (λ (d : Dest). d.id.0) id.0 (relieved_at id (left_by x es)) ds dests_apart))

-- an unbound entry leaves
free_point : (es : List Entry) (ts : List Template) (x : Entry) (d : Dest) → IsDistinct nat_eq (entry_ids es) → find (has_entry_id x.id) es ≡ Some x → x.server ≡ None → row_of es ts d ≡ row_of (left_by x es) ts d
free_point es ts x d apart found none = end_point es ts x d false (is_active x.state) apart found (ap (λ o. dest_eq o d.id) none) refl

pub free_rows : (es : List Entry) (ts : List Template) (x : Entry) (ds : List Dest) → IsDistinct nat_eq (entry_ids es) → find (has_entry_id x.id) es ≡ Some x → x.server ≡ None → map (row_of es ts) ds ≡ map (row_of (left_by x es) ts) ds
free_rows es ts x ds apart found none = rows_same (row_of es ts) (row_of (left_by x es) ts) ds (λ d. free_point es ts x d apart found none)

-- it counted
leaving_counted : (es : List Entry) (ts : List Template) (x : Entry) (d : Dest) (b : Bool) → IsDistinct nat_eq (entry_ids es) → find (has_entry_id x.id) es ≡ Some x → dest_eq x.server d.id ≡ true → is_active x.state ≡ b → 0 < named b (row_of es ts d)
leaving_counted es ts x d true apart found old is =
    omega (arith, count_left (counts_active d.id) es x apart found, one_both (dest_eq x.server d.id) (is_active x.state) true true old is)
leaving_counted es ts x d false apart found old is =
    omega (arith, count_left (counts_inactive d.id) es x apart found, one_both (dest_eq x.server d.id) (not (is_active x.state)) true true old (ap not is))

pub leaving_at : (es : List Entry) (ts : List Template) (x : Entry) (id : DestId) (ds : List Dest) → IsDistinct nat_eq (entry_ids es) → find (has_entry_id x.id) es ≡ Some x → x.server ≡ Some id
    → IfSome (row_at id (map (row_of es ts) ds)) (λ row. 0 < named (is_active x.state) row)
leaving_at es ts x id ds apart found names = row_with (λ row. 0 < named (is_active x.state) row) es ts id ds (λ d is.
    leaving_counted es ts x d (is_active x.state) apart found (here_by x.server id d names ∙ find_passes (has_dest_id id) ds d is) refl)
