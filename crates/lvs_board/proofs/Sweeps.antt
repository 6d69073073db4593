-- Many entries leave one after the other: the row of a server is as after all of them at once.
use Rattle.std.proofs.Common.{◌≡◌, ◌+◌, ◌-◌, ◌<◌, ◌≤◌, ℕ, Bool, true, false, cond, not, ◌&&◌, ◌||◌, List, [], ◌∷◌, Option, Some, None, refl, sym, ap, subst, ◌∙◌, map, arith, nat_eq, nat_lt, if◌then◌else◌, drop, get_or, length}
use Rattle.std.proofs.lemmas.Grind.{common_steps}
use Rattle.std.proofs.lemmas.List.{drop_all}
use Rattle.std.proofs.lemmas.Bool.Decides.{nat_tests}
use Rattle.std.specs.List.{filter}
use Rattle.lvs_types.specs.declared.template.Template.{Template}
use Rattle.lvs_model.specs.Lists.{without}
use Rattle.lvs_model.specs.Clock.{is_named_in, after_ends}
use Rattle.lvs_types.specs.declared.addr.DestId.{DestId}
use Rattle.lvs_types.specs.declared.dest.Dest.{Dest}
use Rattle.lvs_types.specs.declared.dest.DestRow.{DestRow}
use Rattle.lvs_types.specs.declared.dest.DestSpec.{DestSpec}
use Rattle.lvs_types.specs.declared.entry.Entry.{Entry}
use Rattle.lvs_model.specs.Same.{dest_eq}
use Rattle.lvs_model.specs.Timeouts.{is_active}
use Rattle.lvs_model.specs.Overload.{is_relieved, overload_ended}
use Rattle.lvs_model.specs.Counts.{counts_active, counts_inactive, active, inactive, total, template_count, row_of}
use Rattle.lvs_dests.specs.Rows.{ended}
use Rattle.lvs_board.proofs.Counts.{one_if, count_cons, count_parts}
use Rattle.lvs_dests.specs.Rows.{named, row_at, has_row_id, changed}
use Rattle.std.specs.Option.{IfSome, option_map}
use Rattle.lvs_model.specs.Lookups.{has_dest_id, dest_at}
use Rattle.lvs_well_formed.proofs.Lists.{find_passes}
use Rattle.lvs_board.specs.Endings.{end_one, ends_row, IsCountedAt, CanLeave}
use Rattle.lvs_board.proofs.Ends.{map_twice}
use Rattle.lvs_board.proofs.Rows.{one_both, here_by}

-- RELIEF STAYS

-- fewer connections never take relief away
pub relief_stays : (spec : DestSpec) (t u : ℕ) → u ≤ t → is_relieved spec t ≡ true → is_relieved spec u ≡ true
relief_stays spec t u fewer is = grind (arith, nat_tests)

again_by : (now later before : Bool) → (now ≡ true → later ≡ true) → cond later false (cond now false before) ≡ cond later false before
again_by now true before stays = refl
again_by true false before stays = absurd (let h = stays refl in cc)
again_by false false before stays = refl

-- a look at the overload is overtaken by one at fewer connections
pub ended_again : (spec : DestSpec) (t u : ℕ) (before : Bool) → u ≤ t → overload_ended spec u (overload_ended spec t before) ≡ overload_ended spec u before
ended_again spec t u before fewer = again_by (is_relieved spec t) (is_relieved spec u) before (relief_stays spec t u fewer)

-- ONE SERVER

abbrev made : Dest → ℕ → ℕ → ℕ → DestRow
made d a i t = record { dest = d; active = a; inactive = i; templates = t }

abbrev looked : ℕ → Dest → Dest
looked n d = record d { overloaded = overload_ended d.spec n d.overloaded }

abbrev pub swept_made : Dest → ℕ → ℕ → ℕ → Bool → DestRow
swept_made d a i t named = made (cond named (looked (a + i) d) d) a i t

swept_same : (d : Dest) (a b i j t : ℕ) (n m : Bool) → a ≡ b → i ≡ j → n ≡ m → swept_made d a i t n ≡ swept_made d b j t m
swept_same d a b i j t n m same_active same_inactive same =
    ap (λ x. swept_made d x i t n) same_active ∙ ap (λ y. swept_made d b y t n) same_inactive ∙ ap (swept_made d b j t) same

collapse : (d : Dest) (m x y t : ℕ) (n : Bool) → x + y ≤ m → (n ≡ false → m ≡ x + y) → swept_made (looked m d) x y t n ≡ swept_made d x y t true
collapse d m x y t true fewer none = ap (λ o. made (record d { overloaded = o }) x y t) (ended_again d.spec m (x + y) d.overloaded fewer)
collapse d m x y t false fewer none = ap (λ k. made (looked k d) x y t) (none refl)

none_below : (n : ℕ) → nat_lt 0 n ≡ false → n ≡ 0
none_below n is = grind (arith, nat_tests)

some_above : (n : ℕ) → 0 < n → true ≡ nat_lt 0 n
some_above n is = grind (arith, nat_tests)

abbrev Claim : List Entry → Type 0
Claim due = (d : Dest) (a i t : ℕ) → active d.id due ≤ a → inactive d.id due ≤ i → ends_row due (made d a i t) ≡ swept_made d (a - active d.id due) (i - inactive d.id due) t (nat_lt 0 (total d.id due))

claim_step : (e : Entry) (due : List Entry) (d : Dest) (a i t : ℕ) (here b : Bool) → dest_eq e.server d.id ≡ here → is_active e.state ≡ b → Claim due → active d.id (e ∷ due) ≤ a → inactive d.id (e ∷ due) ≤ i
    → ends_row due (cond here (ended b (made d a i t)) (made d a i t)) ≡ swept_made d (a - active d.id (e ∷ due)) (i - inactive d.id (e ∷ due)) t (nat_lt 0 (total d.id (e ∷ due)))
claim_step e due d a i t false b names is rest has_active has_inactive =
    let ca = count_cons (counts_active d.id) e due in
    let ci = count_cons (counts_inactive d.id) e due in
    let ea = one_both (dest_eq e.server d.id) (is_active e.state) false b names is in
    let ei = one_both (dest_eq e.server d.id) (not (is_active e.state)) false (not b) names (ap not is) in
    let sa : active d.id due ≡ active d.id (e ∷ due) = omega (arith, ca, ea) in
    let si : inactive d.id due ≡ inactive d.id (e ∷ due) = omega (arith, ci, ei) in
    rest d a i t (omega (arith, sa, has_active)) (omega (arith, si, has_inactive))
    ∙ swept_same d (a - active d.id due) (a - active d.id (e ∷ due)) (i - inactive d.id due) (i - inactive d.id (e ∷ due)) t (nat_lt 0 (total d.id due)) (nat_lt 0 (total d.id (e ∷ due)))
    (omega (arith, sa)) (omega (arith, si)) (ap (nat_lt 0) (let st : total d.id due ≡ total d.id (e ∷ due) = omega (arith, sa, si) in st))
claim_step e due d a i t true true names is rest has_active has_inactive =
    let ca = count_cons (counts_active d.id) e due in
    let ci = count_cons (counts_inactive d.id) e due in
    let ea = one_both (dest_eq e.server d.id) (is_active e.state) true true names is in
    let ei = one_both (dest_eq e.server d.id) (not (is_active e.state)) true false names (ap not is) in
    let sa : active d.id (e ∷ due) ≡ active d.id due + 1 = omega (arith, ca, ea) in
    let si : inactive d.id due ≡ inactive d.id (e ∷ due) = omega (arith, ci, ei) in
    rest (looked (a - 1 + i) d) (a - 1) i t (omega (arith, sa, has_active)) (omega (arith, si, has_inactive))
    ∙ collapse d (a - 1 + i) (a - 1 - active d.id due) (i - inactive d.id due) t (nat_lt 0 (total d.id due)) (omega arith) (λ none. omega (arith, none_below (total d.id due) none))
    ∙ swept_same d (a - 1 - active d.id due) (a - active d.id (e ∷ due)) (i - inactive d.id due) (i - inactive d.id (e ∷ due)) t true (nat_lt 0 (total d.id (e ∷ due)))
    (omega (arith, sa)) (omega (arith, si)) (some_above (total d.id (e ∷ due)) (omega (arith, sa)))
claim_step e due d a i t true false names is rest has_active has_inactive =
    let ca = count_cons (counts_active d.id) e due in
    let ci = count_cons (counts_inactive d.id) e due in
    let ea = one_both (dest_eq e.server d.id) (is_active e.state) true false names is in
    let ei = one_both (dest_eq e.server d.id) (not (is_active e.state)) true true names (ap not is) in
    let sa : active d.id due ≡ active d.id (e ∷ due) = omega (arith, ca, ea) in
    let si : inactive d.id (e ∷ due) ≡ inactive d.id due + 1 = omega (arith, ci, ei) in
    rest (looked (a + (i - 1)) d) a (i - 1) t (omega (arith, sa, has_active)) (omega (arith, si, has_inactive))
    ∙ collapse d (a + (i - 1)) (a - active d.id due) (i - 1 - inactive d.id due) t (nat_lt 0 (total d.id due)) (omega arith) (λ none. omega (arith, none_below (total d.id due) none))
    ∙ swept_same d (a - active d.id due) (a - active d.id (e ∷ due)) (i - 1 - inactive d.id due) (i - inactive d.id (e ∷ due)) t true (nat_lt 0 (total d.id (e ∷ due)))
    (omega (arith, sa)) (omega (arith, si)) (some_above (total d.id (e ∷ due)) (omega (arith, si)))

claim_none : Claim []
claim_none d a i t has_active has_inactive = ap (λ x. made d x i t) (let same : a ≡ a - active d.id [] = omega arith in same) ∙ ap (λ y. made d (a - active d.id []) y t) (let same : i ≡ i - inactive d.id [] = omega arith in same)

-- as after all of them at once: the numbers are less by the counts, and overload is looked at once, with what stays
pub all_ended : (due : List Entry) → Claim due
all_ended [] = claim_none
all_ended (e ∷ due) = λ d a i t has_active has_inactive. claim_step e due d a i t (dest_eq e.server d.id) (is_active e.state) refl refl (all_ended due) has_active has_inactive

-- ALL SERVERS

-- two lists count the same at every server
pub record CountAlike (es fs : List Entry) : Type 0 where
  pub of_active : (id : DestId) → active id es ≡ active id fs
  pub of_inactive : (id : DestId) → inactive id es ≡ inactive id fs

two_counts : (a b : Bool) → one_if (a && b) + one_if (a && not b) ≡ one_if a
two_counts true true = refl
two_counts true false = refl
two_counts false b = refl

named_step : (h : Bool) (n k : ℕ) (rest : Bool) → k ≡ one_if h + n → rest ≡ nat_lt 0 n → (h || rest) ≡ nat_lt 0 k
named_step true n k rest is later = some_above k (omega (arith, is))
named_step false n k rest is later = later ∙ ap (nat_lt 0) (let same : n ≡ k = omega (arith, is) in same)

named_by_total : (es : List Entry) (d : Dest) → is_named_in es d ≡ nat_lt 0 (total d.id es)
named_by_total [] d = refl
named_by_total (e ∷ es) d =
    named_step (dest_eq e.server d.id) (total d.id es) (total d.id (e ∷ es)) (is_named_in es d)
    (omega (arith, count_cons (counts_active d.id) e es, count_cons (counts_inactive d.id) e es, two_counts (dest_eq e.server d.id) (is_active e.state)))
    (named_by_total es d)

swept_by : (d : Dest) (left : List Entry) (ts : List Template) (n : Bool) → swept_made d (active d.id left) (inactive d.id left) (template_count d.id ts) n ≡ row_of left ts (if n then record d { overloaded = overload_ended d.spec (total d.id left) d.overloaded } else d)
swept_by d left ts true = refl
swept_by d left ts false = refl

sweep_point : (p : Entry → Bool) (due es : List Entry) (ts : List Template) (d : Dest) → CountAlike due (filter p es) → ends_row due (row_of es ts d) ≡ row_of (without p es) ts (after_ends (filter p es) (without p es) d)
sweep_point p due es ts d alike =
    let ca = count_parts (counts_active d.id) p es in
    let ci = count_parts (counts_inactive d.id) p es in
    let sa = alike.of_active d.id in
    let si = alike.of_inactive d.id in
    let st : total d.id due ≡ total d.id (filter p es) = omega (arith, sa, si) in
    all_ended due d (active d.id es) (inactive d.id es) (template_count d.id ts) (omega (arith, ca, sa)) (omega (arith, ci, si))
    ∙ swept_same d (active d.id es - active d.id due) (active d.id (without p es)) (inactive d.id es - inactive d.id due) (inactive d.id (without p es)) (template_count d.id ts) (nat_lt 0 (total d.id due)) (is_named_in (filter p es) d)
    (omega (arith, ca, sa)) (omega (arith, ci, si)) (ap (nat_lt 0) st ∙ sym (named_by_total (filter p es) d))
    ∙ swept_by d (without p es) ts (is_named_in (filter p es) d)

-- the rows after all due entries have left, one after the other, in any order that counts alike
pub swept_rows : (p : Entry → Bool) (due es : List Entry) (ts : List Template) (ds : List Dest) → CountAlike due (filter p es)
    → map (ends_row due) (map (row_of es ts) ds) ≡ map (row_of (without p es) ts) (map (after_ends (filter p es) (without p es)) ds)
swept_rows p due es ts [] alike = refl
swept_rows p due es ts (d ∷ ds) alike = rw (sweep_point p due es ts d alike) (ap (λ (rest : List DestRow). row_of (without p es) ts (after_ends (filter p es) (without p es) d) ∷ rest) (swept_rows p due es ts ds alike))

-- WHAT THE LOOP ASKS

-- the row of a server has its id, and at least these counts
record Covers (due : List Entry) (g : Dest → DestRow) : Type 0 where
  ids : (d : Dest) → (g d).dest.id ≡ d.id
  actives : (d : Dest) → active d.id due ≤ (g d).active
  inactives : (d : Dest) → inactive d.id due ≤ (g d).inactive

found_step : (g : Dest → DestRow) (b c : Bool) (d : Dest) (r : Option DestRow) (o : Option Dest) → b ≡ c → r ≡ option_map g o → cond b (Some (g d)) r ≡ option_map g (cond c (Some d) o)
found_step g true true d r o same rest = refl
found_step g true false d r o same rest = absurd cc
found_step g false true d r o same rest = absurd cc
found_step g false false d r o same rest = rest

row_found_by : (g : Dest → DestRow) (id : DestId) (ds : List Dest) → ((d : Dest) → (g d).dest.id ≡ d.id) → row_at id (map g ds) ≡ option_map g (dest_at id ds)
row_found_by g id [] ids = refl
row_found_by g id (d ∷ ds) ids = found_step g (has_row_id id (g d)) (has_dest_id id d) d (row_at id (map g ds)) (dest_at id ds) (ap (λ (named : DestId). nat_eq named.0 id.0) (ids d)) (row_found_by g id ds ids)

counted_head : (e : Entry) (due : List Entry) (d : Dest) (row : DestRow) (b : Bool) → dest_eq e.server d.id ≡ true → is_active e.state ≡ b → active d.id (e ∷ due) ≤ row.active → inactive d.id (e ∷ due) ≤ row.inactive → 0 < named b row
counted_head e due d row true names is has_active has_inactive =
    omega (arith, has_active, count_cons (counts_active d.id) e due, one_both (dest_eq e.server d.id) (is_active e.state) true true names is)
counted_head e due d row false names is has_active has_inactive =
    omega (arith, has_inactive, count_cons (counts_inactive d.id) e due, one_both (dest_eq e.server d.id) (not (is_active e.state)) true true names (ap not is))

head_by : (e : Entry) (due : List Entry) (g : Dest → DestRow) (ds : List Dest) (id : DestId) (o : Option Dest) → Covers (e ∷ due) g → e.server ≡ Some id → dest_at id ds ≡ o → IfSome (option_map g o) (λ row. 0 < named (is_active e.state) row)
head_by e due g ds id None covers names is = tt
head_by e due g ds id (Some d) covers names is =
    counted_head e due d (g d) (is_active e.state) (here_by e.server id d names ∙ find_passes (has_dest_id id) ds d is) refl (covers.actives d) (covers.inactives d)

head_counted : (e : Entry) (due : List Entry) (g : Dest → DestRow) (ds : List Dest) → Covers (e ∷ due) g → IsCountedAt e (map g ds)
head_counted e due g ds covers = λ id names.
    subst (λ (r : Option DestRow). IfSome r (λ row. 0 < named (is_active e.state) row)) (sym (row_found_by g id ds covers.ids))
    (head_by e due g ds id (dest_at id ds) covers names refl)

id_kept : (b c : Bool) (row : DestRow) → (cond b (ended c row) row).dest.id ≡ row.dest.id
id_kept true true row = refl
id_kept true false row = refl
id_kept false c row = refl

active_left : (b c : Bool) (row : DestRow) (n : ℕ) → one_if (b && c) + n ≤ row.active → n ≤ (cond b (ended c row) row).active
active_left true true row n has = omega (arith, has)
active_left true false row n has = omega (arith, has)
active_left false c row n has = omega (arith, has)

inactive_left : (b c : Bool) (row : DestRow) (n : ℕ) → one_if (b && not c) + n ≤ row.inactive → n ≤ (cond b (ended c row) row).inactive
inactive_left true true row n has = omega (arith, has)
inactive_left true false row n has = omega (arith, has)
inactive_left false c row n has = omega (arith, has)

covers_rest : (e : Entry) (due : List Entry) (g : Dest → DestRow) → Covers (e ∷ due) g → Covers due (λ d. end_one e (g d))
covers_rest e due g covers = record {
  ids = λ d. id_kept (dest_eq e.server (g d).dest.id) (is_active e.state) (g d) ∙ covers.ids d;
  actives = λ d. active_left (dest_eq e.server (g d).dest.id) (is_active e.state) (g d) (active d.id due)
      (subst (λ (id : DestId). one_if (dest_eq e.server id && is_active e.state) + active d.id due ≤ (g d).active) (sym (covers.ids d)) (omega (arith, covers.actives d, count_cons (counts_active d.id) e due)));
  inactives = λ d. inactive_left (dest_eq e.server (g d).dest.id) (is_active e.state) (g d) (inactive d.id due)
      (subst (λ (id : DestId). one_if (dest_eq e.server id && not (is_active e.state)) + inactive d.id due ≤ (g d).inactive) (sym (covers.ids d)) (omega (arith, covers.inactives d, count_cons (counts_inactive d.id) e due)));
}

leave_by : (due : List Entry) (g : Dest → DestRow) (ds : List Dest) → Covers due g → CanLeave due (map g ds)
leave_by [] g ds covers = tt
leave_by (e ∷ due) g ds covers =
    (head_counted e due g ds covers, subst (CanLeave due) (sym (map_twice (end_one e) g ds)) (leave_by due (λ d. end_one e (g d)) ds (covers_rest e due g covers)))

-- entries that are among those that count can leave, one after the other
pub can_leave : (p : Entry → Bool) (due es : List Entry) (ts : List Template) (ds : List Dest) → CountAlike due (filter p es) → CanLeave due (map (row_of es ts) ds)
can_leave p due es ts ds alike = leave_by due (row_of es ts) ds
    (record {
      ids = λ d. refl;
      actives = λ d. omega (arith, alike.of_active d.id, count_parts (counts_active d.id) p es);
      inactives = λ d. omega (arith, alike.of_inactive d.id, count_parts (counts_inactive d.id) p es);
    })

-- ONE CALL

one_step : (id : DestId) (o : Option DestId) (b : Bool) (row : DestRow) → o ≡ Some id → (if has_row_id id row then ended b row else row) ≡ cond (dest_eq o row.dest.id) (ended b row) row
one_step id o b row names = ap (λ h. cond h (ended b row) row) (sym (here_by o id row.dest names))

pub one_left : (id : DestId) (e : Entry) (rows : List DestRow) → e.server ≡ Some id → changed (has_row_id id) (ended (is_active e.state)) rows ≡ map (end_one e) rows
one_left id e [] names = refl
one_left id e (row ∷ rows) names = rw (one_step id e.server (is_active e.state) row names) (ap (λ (rest : List DestRow). end_one e row ∷ rest) (one_left id e rows names))

none_step : (e : Entry) (row : DestRow) → e.server ≡ None → end_one e row ≡ row
none_step e row none = ap (λ (o : Option DestId). cond (dest_eq o row.dest.id) (ended (is_active e.state) row) row) none

pub none_left : (e : Entry) (rows : List DestRow) → e.server ≡ None → map (end_one e) rows ≡ rows
none_left e [] none = refl
none_left e (row ∷ rows) none = rw (none_step e row none) (ap (λ (rest : List DestRow). row ∷ rest) (none_left e rows none))

map_twice_rows : (g f : DestRow → DestRow) (rows : List DestRow) → map g (map f rows) ≡ map (λ row. g (f row)) rows
map_twice_rows g f [] = refl
map_twice_rows g f (row ∷ rows) = ap (λ (rest : List DestRow). g (f row) ∷ rest) (map_twice_rows g f rows)

pub ends_twice : (e : Entry) (due : List Entry) (rows : List DestRow) → map (ends_row due) (map (end_one e) rows) ≡ map (ends_row (e ∷ due)) rows
ends_twice e due rows = map_twice_rows (ends_row due) (end_one e) rows

pub no_more : (rows : List DestRow) → map (ends_row []) rows ≡ rows
no_more [] = refl
no_more (row ∷ rows) = ap (λ (rest : List DestRow). row ∷ rest) (no_more rows)

drop_cons : {X : Type 0} (xs : List X) (k : ℕ) (d : X) → k < length xs → drop k xs ≡ get_or xs k d ∷ drop (k + 1) xs
drop_cons xs k d within = grind (arith, common_steps)

-- the next entry leaves
pub next_leaves : (due : List Entry) (k : ℕ) (e : Entry) (rows all : List DestRow) → k < length due → CanLeave (drop k due) rows → map (ends_row (drop k due)) rows ≡ all
    → CanLeave (drop (k + 1) due) (map (end_one (get_or due k e)) rows) × (map (ends_row (drop (k + 1) due)) (map (end_one (get_or due k e)) rows) ≡ all)
next_leaves due k e rows all within can left =
    let parts = drop_cons due k e within in
    let both = subst (λ es. CanLeave es rows) parts can in
    (both.1, ends_twice (get_or due k e) (drop (k + 1) due) rows ∙ (subst (λ es. map (ends_row es) rows ≡ all) parts left))

pub all_left : (due : List Entry) (k : ℕ) (rows all : List DestRow) → length due ≤ k → map (ends_row (drop k due)) rows ≡ all → rows ≡ all
all_left due k rows all past left = sym (no_more rows) ∙ (subst (λ es. map (ends_row es) rows ≡ all) (drop_all k due past) left)
