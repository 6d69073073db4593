-- The rows of the servers follow each change of the entries.
use Rattle.std.proofs.Common.{◌≡◌, ◌+◌, ◌-◌, ◌<◌, ◌^◌, ℕ, Bool, true, false, cond, not, ◌&&◌, List, [], ◌∷◌, Option, Some, None, refl, sym, ap, subst, ◌∙◌, map, length, arith, nat_eq}
use Rattle.std.specs.Prelude.{IfSome}
use Rattle.std.specs.Option.{option_map}
use Rattle.std.proofs.lemmas.Bool.Decides.{nat_tests}
use Rattle.std.proofs.lemmas.List.Sums.{count_by-le-length}
use Rattle.std.specs.List.{find}
use Rattle.lvs_types.specs.declared.addr.DestId.{DestId}
use Rattle.lvs_types.specs.declared.dest.Dest.{Dest}
use Rattle.lvs_types.specs.declared.dest.DestRow.{DestRow}
use Rattle.lvs_types.specs.declared.entry.Entry.{Entry}
use Rattle.lvs_types.specs.declared.template.Template.{Template}
use Rattle.lvs_model.specs.Same.{dest_eq}
use Rattle.lvs_model.specs.Timeouts.{is_active}
use Rattle.lvs_model.specs.Counts.{row_of, counts_active, counts_inactive, active, inactive, template_count}
use Rattle.lvs_model.specs.Binding.{put_entry}
use Rattle.lvs_model.specs.Lookups.{has_dest_id, has_entry_id, dest_at}
use Rattle.lvs_dests.specs.Rows.{changed, shifted, named, has_row_id, row_at, IsFarBelow}
use Rattle.lvs_board.proofs.Counts.{one_if, count_put}
use Rattle.lvs_well_formed.proofs.Lists.{find_passes}
use mathlib.Core.Bool.{beq}

-- a change of the rows that pass, server by server
pub rows_changed : (p : DestRow → Bool) (f : DestRow → DestRow) (g h : Dest → DestRow) (ds : List Dest) → ((d : Dest) → cond (p (g d)) (f (g d)) (g d) ≡ h d) → changed p f (map g ds) ≡ map h ds
rows_changed p f g h [] same = refl
rows_changed p f g h (d ∷ ds) same = rw (same d) (ap (λ (rest : List DestRow). h d ∷ rest) (rows_changed p f g h ds same))

pub rows_same : (g h : Dest → DestRow) (ds : List Dest) → ((d : Dest) → g d ≡ h d) → map g ds ≡ map h ds
rows_same g h [] same = refl
rows_same g h (d ∷ ds) same = rw (same d) (ap (λ (rest : List DestRow). h d ∷ rest) (rows_same g h ds same))

abbrev made : Dest → ℕ → ℕ → ℕ → DestRow
made d a i t = record { dest = d; active = a; inactive = i; templates = t }

-- one row is another where the numbers are
row_same : (d : Dest) (a b i j t : ℕ) → a ≡ b → i ≡ j → made d a i t ≡ made d b j t
row_same d a b i j t same_active same_inactive = ap (λ n. made d n i t) same_active ∙ ap (λ n. made d b n t) same_inactive

pub one_both : (x y a b : Bool) → x ≡ a → y ≡ b → one_if (x && y) ≡ one_if (a && b)
one_both x y a b is also = cc

flip : (m n : ℕ) → nat_eq m n ≡ nat_eq n m
flip m n = grind (arith, nat_tests)

-- an entry that became another one at its server: the row of one server
move_point : (es : List Entry) (ts : List Template) (x v : Entry) (d : Dest) (here b : Bool) → find (has_entry_id v.id) es ≡ Some x → dest_eq x.server d.id ≡ here → dest_eq v.server d.id ≡ here
    → is_active v.state ≡ b → is_active x.state ≡ not b → cond here (shifted b (row_of es ts d)) (row_of es ts d) ≡ row_of (put_entry v es) ts d
move_point es ts x v d true true found old new is was =
    let a = count_put (counts_active d.id) (has_entry_id v.id) v x es found in
    let i = count_put (counts_inactive d.id) (has_entry_id v.id) v x es found in
    let ax = one_both (dest_eq x.server d.id) (is_active x.state) true false old was in
    let av = one_both (dest_eq v.server d.id) (is_active v.state) true true new is in
    let ix = one_both (dest_eq x.server d.id) (not (is_active x.state)) true true old (ap not was) in
    let iv = one_both (dest_eq v.server d.id) (not (is_active v.state)) true false new (ap not is) in
    row_same d (active d.id es + 1) (active d.id (put_entry v es)) (inactive d.id es - 1) (inactive d.id (put_entry v es)) (template_count d.id ts) (omega (arith, a, ax, av)) (omega (arith, i, ix, iv))
move_point es ts x v d true false found old new is was =
    let a = count_put (counts_active d.id) (has_entry_id v.id) v x es found in
    let i = count_put (counts_inactive d.id) (has_entry_id v.id) v x es found in
    let ax = one_both (dest_eq x.server d.id) (is_active x.state) true true old was in
    let av = one_both (dest_eq v.server d.id) (is_active v.state) true false new is in
    let ix = one_both (dest_eq x.server d.id) (not (is_active x.state)) true false old (ap not was) in
    let iv = one_both (dest_eq v.server d.id) (not (is_active v.state)) true true new (ap not is) in
    row_same d (active d.id es - 1) (active d.id (put_entry v es)) (inactive d.id es + 1) (inactive d.id (put_entry v es)) (template_count d.id ts) (omega (arith, a, ax, av)) (omega (arith, i, ix, iv))
move_point es ts x v d false b found old new is was =
    let a = count_put (counts_active d.id) (has_entry_id v.id) v x es found in
    let i = count_put (counts_inactive d.id) (has_entry_id v.id) v x es found in
    let ax = one_both (dest_eq x.server d.id) (is_active x.state) false (not b) old was in
    let av = one_both (dest_eq v.server d.id) (is_active v.state) false b new is in
    let ix = one_both (dest_eq x.server d.id) (not (is_active x.state)) false (not (not b)) old (ap not was) in
    let iv = one_both (dest_eq v.server d.id) (not (is_active v.state)) false (not b) new (ap not is) in
    row_same d (active d.id es) (active d.id (put_entry v es)) (inactive d.id es) (inactive d.id (put_entry v es)) (template_count d.id ts) (omega (arith, a, ax, av)) (omega (arith, i, ix, iv))

-- as active as it was: no row changes
keep_point : (es : List Entry) (ts : List Template) (x v : Entry) (d : Dest) → find (has_entry_id v.id) es ≡ Some x → v.server ≡ x.server → is_active v.state ≡ is_active x.state → row_of es ts d ≡ row_of (put_entry v es) ts d
keep_point es ts x v d found server is =
    let a = count_put (counts_active d.id) (has_entry_id v.id) v x es found in
    let i = count_put (counts_inactive d.id) (has_entry_id v.id) v x es found in
    let ax = one_both (dest_eq v.server d.id) (is_active v.state) (dest_eq x.server d.id) (is_active x.state) (ap (λ o. dest_eq o d.id) server) is in
    let ix = one_both (dest_eq v.server d.id) (not (is_active v.state)) (dest_eq x.server d.id) (not (is_active x.state)) (ap (λ o. dest_eq o d.id) server) (ap not is) in
    row_same d (active d.id es) (active d.id (put_entry v es)) (inactive d.id es) (inactive d.id (put_entry v es)) (template_count d.id ts) (omega (arith, a, ax)) (omega (arith, i, ix))

pub kept_rows : (es : List Entry) (ts : List Template) (x v : Entry) (ds : List Dest) → find (has_entry_id v.id) es ≡ Some x → v.server ≡ x.server → is_active v.state ≡ is_active x.state → map (row_of es ts) ds ≡ map (row_of (put_entry v es) ts) ds
kept_rows es ts x v ds found server is = rows_same (row_of es ts) (row_of (put_entry v es) ts) ds (λ d. keep_point es ts x v d found server is)

pub here_by : (o : Option DestId) (id : DestId) (d : Dest) → o ≡ Some id → dest_eq o d.id ≡ has_dest_id id d
here_by o id d is = ap (λ p. dest_eq p d.id) is ∙ flip id.0 d.id.0

pub moved_rows : (es : List Entry) (ts : List Template) (x v : Entry) (id : DestId) (ds : List Dest) → find (has_entry_id v.id) es ≡ Some x → v.server ≡ Some id → v.server ≡ x.server → is_active x.state ≡ not (is_active v.state)
    → changed (has_row_id id) (shifted (is_active v.state)) (map (row_of es ts) ds) ≡ map (row_of (put_entry v es) ts) ds
moved_rows es ts x v id ds found names server was =
    rows_changed (has_row_id id) (shifted (is_active v.state)) (row_of es ts) (row_of (put_entry v es) ts) ds (λ d. move_point es ts x v d (has_dest_id id d) (is_active v.state) found (here_by x.server id d (sym server ∙ names)) (here_by v.server id d names) refl was)

-- WHAT THE CALLS OF THE SERVERS' TABLE ASK

row_step : (g : Dest → DestRow) (b : Bool) (d : Dest) (rs : Option DestRow) (o : Option Dest) → rs ≡ option_map g o → cond b (Some (g d)) rs ≡ option_map g (cond b (Some d) o)
row_step g true d rs o rest = refl
row_step g false d rs o rest = rest

pub row_found : (es : List Entry) (ts : List Template) (id : DestId) (ds : List Dest) → row_at id (map (row_of es ts) ds) ≡ option_map (row_of es ts) (dest_at id ds)
row_found es ts id [] = refl
row_found es ts id (d ∷ ds) = row_step (row_of es ts) (has_dest_id id d) d (row_at id (map (row_of es ts) ds)) (dest_at id ds) (row_found es ts id ds)

far : (es : List Entry) (ts : List Template) (d : Dest) → length es < 2 ^ 62 → length ts < 2 ^ 62 → IsFarBelow (row_of es ts d)
far es ts d few few_templates = record {
  active = omega (arith, few, count_by-le-length (counts_active d.id) es);
  inactive = omega (arith, few, count_by-le-length (counts_inactive d.id) es);
  templates = omega (arith, few_templates, count_by-le-length (λ (t : Template). dest_eq t.server d.id) ts);
}

if_at : (P : DestRow → Type 0) (es : List Entry) (ts : List Template) (id : DestId) (ds : List Dest) (o : Option Dest) → dest_at id ds ≡ o → ((d : Dest) → o ≡ Some d → P (row_of es ts d)) → IfSome (row_at id (map (row_of es ts) ds)) P
if_at P es ts id ds None is each = subst (λ (r : Option DestRow). IfSome r P) (sym (row_found es ts id ds ∙ ap (option_map (row_of es ts)) is)) tt
if_at P es ts id ds (Some d) is each = subst (λ (r : Option DestRow). IfSome r P) (sym (row_found es ts id ds ∙ ap (option_map (row_of es ts)) is)) (each d refl)

-- what holds of the row of a server that is there, if it is, holds of what is found
pub row_with : (P : DestRow → Type 0) (es : List Entry) (ts : List Template) (id : DestId) (ds : List Dest) → ((d : Dest) → dest_at id ds ≡ Some d → P (row_of es ts d)) → IfSome (row_at id (map (row_of es ts) ds)) P
row_with P es ts id ds each = if_at P es ts id ds (dest_at id ds) refl each

pub room_at : (es : List Entry) (ts : List Template) (id : DestId) (ds : List Dest) → length es < 2 ^ 62 → length ts < 2 ^ 62 → IfSome (row_at id (map (row_of es ts) ds)) IsFarBelow
room_at es ts id ds few few_templates = row_with IsFarBelow es ts id ds (λ d is. far es ts d few few_templates)

-- an entry that is there counts at its server, in the number of its state
counted_at : (es : List Entry) (ts : List Template) (x v : Entry) (d : Dest) (b : Bool) → find (has_entry_id v.id) es ≡ Some x → dest_eq x.server d.id ≡ true → dest_eq v.server d.id ≡ true
    → is_active v.state ≡ b → is_active x.state ≡ not b → 0 < named (not b) (row_of es ts d)
counted_at es ts x v d true found old new is was =
    let i = count_put (counts_inactive d.id) (has_entry_id v.id) v x es found in
    let ix = one_both (dest_eq x.server d.id) (not (is_active x.state)) true true old (ap not was) in
    let iv = one_both (dest_eq v.server d.id) (not (is_active v.state)) true false new (ap not is) in
    omega (arith, i, ix, iv)
counted_at es ts x v d false found old new is was =
    let a = count_put (counts_active d.id) (has_entry_id v.id) v x es found in
    let ax = one_both (dest_eq x.server d.id) (is_active x.state) true true old was in
    let av = one_both (dest_eq v.server d.id) (is_active v.state) true false new is in
    omega (arith, a, ax, av)

pub some_at : (es : List Entry) (ts : List Template) (x v : Entry) (id : DestId) (ds : List Dest) → find (has_entry_id v.id) es ≡ Some x → v.server ≡ Some id → v.server ≡ x.server → is_active x.state ≡ not (is_active v.state)
    → IfSome (row_at id (map (row_of es ts) ds)) (λ row. 0 < named (not (is_active v.state)) row)
some_at es ts x v id ds found names server was = row_with (λ row. 0 < named (not (is_active v.state)) row) es ts id ds (λ d is.
    let here = find_passes (has_dest_id id) ds d is in
    counted_at es ts x v d (is_active v.state) found (here_by x.server id d (sym server ∙ names) ∙ here) (here_by v.server id d names ∙ here) refl was)

pub apart : (a b : Bool) → not (beq a b) ≡ true → a ≡ not b
apart true true h = absurd cc
apart true false h = refl
apart false true h = refl
apart false false h = absurd cc

pub alike : (a b : Bool) → not (beq a b) ≡ false → b ≡ a
alike true true h = refl
alike true false h = absurd cc
alike false true h = absurd cc
alike false false h = refl

-- an unbound entry counts nowhere
unnamed_point : (es : List Entry) (ts : List Template) (x v : Entry) (d : Dest) → find (has_entry_id v.id) es ≡ Some x → v.server ≡ x.server → v.server ≡ None → row_of es ts d ≡ row_of (put_entry v es) ts d
unnamed_point es ts x v d found server none =
    let a = count_put (counts_active d.id) (has_entry_id v.id) v x es found in
    let i = count_put (counts_inactive d.id) (has_entry_id v.id) v x es found in
    let nv : dest_eq v.server d.id ≡ false = ap (λ o. dest_eq o d.id) none in
    let nx : dest_eq x.server d.id ≡ false = ap (λ o. dest_eq o d.id) (sym server ∙ none) in
    let av = one_both (dest_eq v.server d.id) (is_active v.state) false (is_active v.state) nv refl in
    let ax = one_both (dest_eq x.server d.id) (is_active x.state) false (is_active x.state) nx refl in
    let iv = one_both (dest_eq v.server d.id) (not (is_active v.state)) false (not (is_active v.state)) nv refl in
    let ix = one_both (dest_eq x.server d.id) (not (is_active x.state)) false (not (is_active x.state)) nx refl in
    row_same d (active d.id es) (active d.id (put_entry v es)) (inactive d.id es) (inactive d.id (put_entry v es)) (template_count d.id ts) (omega (arith, a, av, ax)) (omega (arith, i, iv, ix))

pub unnamed_rows : (es : List Entry) (ts : List Template) (x v : Entry) (ds : List Dest) → find (has_entry_id v.id) es ≡ Some x → v.server ≡ x.server → v.server ≡ None → map (row_of es ts) ds ≡ map (row_of (put_entry v es) ts) ds
unnamed_rows es ts x v ds found server none = rows_same (row_of es ts) (row_of (put_entry v es) ts) ds (λ d. unnamed_point es ts x v d found server none)
