-- The rows of the servers follow each change of the templates.
use Rattle.std.proofs.Common.{◌≡◌, ◌+◌, ◌-◌, ◌<◌, ◌≤◌, ℕ, Bool, true, false, cond, List, [], ◌∷◌, Option, None, refl, sym, ap, subst, ◌∙◌, map, arith, length, drop, get_or}
use Rattle.std.proofs.lemmas.Grind.{common_steps}
use Rattle.std.proofs.lemmas.List.{drop_all}
use Rattle.lvs_types.specs.declared.addr.DestId.{DestId}
use Rattle.lvs_types.specs.declared.dest.Dest.{Dest}
use Rattle.lvs_types.specs.declared.dest.DestRow.{DestRow}
use Rattle.lvs_types.specs.declared.entry.Entry.{Entry}
use Rattle.lvs_types.specs.declared.template.Template.{Template}
use Rattle.lvs_model.specs.Same.{dest_eq}
use Rattle.lvs_model.specs.Counts.{row_of, active, inactive, template_count}
use Rattle.lvs_model.specs.Lookups.{has_dest_id}
use Rattle.lvs_well_formed.proofs.Lists.{find_passes}
use Rattle.lvs_board.specs.Held.{hold_one, unhold_one, unholds_row, CanUnhold, IsHeldAt}
use Rattle.lvs_board.proofs.Counts.{one_if}
use Rattle.lvs_board.proofs.Rows.{here_by, row_with}

-- A TEMPLATE WITHOUT A SERVER

pub none_holds : (o : Option DestId) (rows : List DestRow) → o ≡ None → map (hold_one o) rows ≡ rows
none_holds o [] none = refl
none_holds o (row ∷ rows) none = rw (ap (λ (p : Option DestId). hold_one p row) none) (ap (λ (rest : List DestRow). row ∷ rest) (none_holds o rows none))

pub none_unholds : (o : Option DestId) (rows : List DestRow) → o ≡ None → map (unhold_one o) rows ≡ rows
none_unholds o [] none = refl
none_unholds o (row ∷ rows) none = rw (ap (λ (p : Option DestId). unhold_one p row) none) (ap (λ (rest : List DestRow). row ∷ rest) (none_unholds o rows none))

-- ONE TEMPLATE COMES OR LEAVES

-- as many templates name each server, and one more the server
abbrev pub NamesMore : List Template → List Template → Option DestId → Type 0
NamesMore ts later o = (id : DestId) → template_count id later ≡ template_count id ts + one_if (dest_eq o id)

pub each_row : (f : DestRow → DestRow) (g h : Dest → DestRow) (ds : List Dest) → ((d : Dest) → f (g d) ≡ h d) → map f (map g ds) ≡ map h ds
each_row f g h [] same = refl
each_row f g h (d ∷ ds) same = rw (same d) (ap (λ (rest : List DestRow). h d ∷ rest) (each_row f g h ds same))

abbrev made : Dest → List Entry → ℕ → DestRow
made d es n = record { dest = d; active = active d.id es; inactive = inactive d.id es; templates = n }

hold_step : (d : Dest) (es : List Entry) (here : Bool) (n later : ℕ) → later ≡ n + one_if here → cond here (made d es (n + 1)) (made d es n) ≡ made d es later
hold_step d es true n later is = ap (made d es) (sym is)
hold_step d es false n later is = ap (made d es) (let same : n ≡ later = omega (arith, is) in same)

unhold_step : (d : Dest) (es : List Entry) (here : Bool) (n left : ℕ) → n ≡ left + one_if here → cond here (made d es (n - 1)) (made d es n) ≡ made d es left
unhold_step d es true n left is = ap (made d es) (let same : n - 1 ≡ left = omega (arith, is) in same)
unhold_step d es false n left is = ap (made d es) (let same : n ≡ left = omega (arith, is) in same)

pub held_rows : (es : List Entry) (ts later : List Template) (o : Option DestId) (ds : List Dest) → NamesMore ts later o → map (hold_one o) (map (row_of es ts) ds) ≡ map (row_of es later) ds
held_rows es ts later o ds more = each_row (hold_one o) (row_of es ts) (row_of es later) ds (λ d. hold_step d es (dest_eq o d.id) (template_count d.id ts) (template_count d.id later) (more d.id))

pub unheld_rows : (es : List Entry) (ts left : List Template) (o : Option DestId) (ds : List Dest) → NamesMore left ts o → map (unhold_one o) (map (row_of es ts) ds) ≡ map (row_of es left) ds
unheld_rows es ts left o ds more = each_row (unhold_one o) (row_of es ts) (row_of es left) ds (λ d. unhold_step d es (dest_eq o d.id) (template_count d.id ts) (template_count d.id left) (more d.id))

-- a template that is there counts at its server
pub is_held_at : (es : List Entry) (ts left : List Template) (o : Option DestId) (ds : List Dest) → NamesMore left ts o → IsHeldAt o (map (row_of es ts) ds)
is_held_at es ts left o ds more = λ id names. row_with (λ row. 0 < row.templates) es ts id ds (λ d is.
    omega (arith, more d.id, ap one_if (here_by o id d names ∙ find_passes (has_dest_id id) ds d is)))

-- MANY TEMPLATES LEAVE

rows_twice : (g f : DestRow → DestRow) (rows : List DestRow) → map g (map f rows) ≡ map (λ row. g (f row)) rows
rows_twice g f [] = refl
rows_twice g f (row ∷ rows) = ap (λ (rest : List DestRow). g (f row) ∷ rest) (rows_twice g f rows)

no_more : (rows : List DestRow) → map (unholds_row []) rows ≡ rows
no_more [] = refl
no_more (row ∷ rows) = ap (λ (rest : List DestRow). row ∷ rest) (no_more rows)

drop_cons : {X : Type 0} (xs : List X) (k : ℕ) (d : X) → k < length xs → drop k xs ≡ get_or xs k d ∷ drop (k + 1) xs
drop_cons xs k d within = grind (arith, common_steps)

-- the next template lets go
pub next_unholds : (gone : List Template) (k : ℕ) (t : Template) (rows all : List DestRow) → k < length gone → CanUnhold (drop k gone) rows → map (unholds_row (drop k gone)) rows ≡ all
    → CanUnhold (drop (k + 1) gone) (map (unhold_one (get_or gone k t).server) rows) × (map (unholds_row (drop (k + 1) gone)) (map (unhold_one (get_or gone k t).server) rows) ≡ all)
next_unholds gone k t rows all within can left =
    let parts = drop_cons gone k t within in
    let both = subst (λ ts. CanUnhold ts rows) parts can in
    (both.1, rows_twice (unholds_row (drop (k + 1) gone)) (unhold_one (get_or gone k t).server) rows ∙ (subst (λ ts. map (unholds_row ts) rows ≡ all) parts left))

pub all_unheld : (gone : List Template) (k : ℕ) (rows all : List DestRow) → length gone ≤ k → map (unholds_row (drop k gone)) rows ≡ all → rows ≡ all
all_unheld gone k rows all past left = sym (no_more rows) ∙ (subst (λ ts. map (unholds_row ts) rows ≡ all) (drop_all k gone past) left)
