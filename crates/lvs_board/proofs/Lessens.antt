-- Many entries leave the templates that made them, one after the other.
use Rattle.std.proofs.Common.{◌≡◌, ◌+◌, ◌<◌, ◌≤◌, ℕ, List, [], ◌∷◌, refl, sym, ap, subst, ◌∙◌, map, arith, length, drop, get_or}
use Rattle.std.proofs.lemmas.Grind.{common_steps}
use Rattle.std.proofs.lemmas.List.{drop_all}
use Rattle.lvs_types.specs.declared.entry.Entry.{Entry}
use Rattle.lvs_templates.specs.declared.row.TemplateRow.{TemplateRow}
use Rattle.lvs_board.specs.Endings.{less_one, lessens_row, CanLessen}

map_twice_rows : (g f : TemplateRow → TemplateRow) (rows : List TemplateRow) → map g (map f rows) ≡ map (λ row. g (f row)) rows
map_twice_rows g f [] = refl
map_twice_rows g f (row ∷ rows) = ap (λ (rest : List TemplateRow). g (f row) ∷ rest) (map_twice_rows g f rows)

lessens_twice : (e : Entry) (due : List Entry) (rows : List TemplateRow) → map (lessens_row due) (map (less_one e) rows) ≡ map (lessens_row (e ∷ due)) rows
lessens_twice e due rows = map_twice_rows (lessens_row due) (less_one e) rows

no_more : (rows : List TemplateRow) → map (lessens_row []) rows ≡ rows
no_more [] = refl
no_more (row ∷ rows) = ap (λ (rest : List TemplateRow). row ∷ rest) (no_more rows)

drop_cons : {X : Type 0} (xs : List X) (k : ℕ) (d : X) → k < length xs → drop k xs ≡ get_or xs k d ∷ drop (k + 1) xs
drop_cons xs k d within = grind (arith, common_steps)

-- the next entry leaves
pub next_lessens : (due : List Entry) (k : ℕ) (e : Entry) (rows all : List TemplateRow) → k < length due → CanLessen (drop k due) rows → map (lessens_row (drop k due)) rows ≡ all
    → CanLessen (drop (k + 1) due) (map (less_one (get_or due k e)) rows) × (map (lessens_row (drop (k + 1) due)) (map (less_one (get_or due k e)) rows) ≡ all)
next_lessens due k e rows all within can left =
    let parts = drop_cons due k e within in
    let both = subst (λ es. CanLessen es rows) parts can in
    (both.1, lessens_twice (get_or due k e) (drop (k + 1) due) rows ∙ (subst (λ es. map (lessens_row es) rows ≡ all) parts left))

pub all_less : (due : List Entry) (k : ℕ) (rows all : List TemplateRow) → length due ≤ k → map (lessens_row (drop k due)) rows ≡ all → rows ≡ all
all_less due k rows all past left = sym (no_more rows) ∙ (subst (λ es. map (lessens_row es) rows ≡ all) (drop_all k due past) left)
