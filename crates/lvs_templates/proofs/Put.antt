-- A template that is put in, and look-ups of templates in place of rows.
use Rattle.std.proofs.Common.{◌≡◌, ℕ, ◌<◌, Bool, true, false, not, cond, nat_lt, ◌==◌, refl, ap, ◌∙◌, subst, arith, List, [], ◌∷◌, ◌++◌, Option, Some, None}
use Rattle.std.specs.List.{find, AllByRecursion}
use Rattle.std.specs.Option.{option_map}
use Rattle.std.proofs.lemmas.Bool.Decides.{nat_tests}
use Rattle.std.proofs.lemmas.Option.{same_Some}
use Rattle.lvs_types.specs.declared.addr.TemplateId.{TemplateId}
use Rattle.lvs_types.specs.declared.template.TemplateKey.{TemplateKey}
use Rattle.lvs_types.specs.declared.template.Template.{Template}
use Rattle.lvs_model.specs.Lists.{without}
use Rattle.lvs_model.specs.Lookups.{template_at, template_of_id}
use Rattle.lvs_templates.specs.declared.row.TemplateRow.{TemplateRow}
use Rattle.lvs_templates.specs.Rows.{has_key, has_id, templates_of, new_row, insert_row, put, put_by}

-- ---- look-ups

found_by : (p : Template → Bool) (row : TemplateRow) (rows : List TemplateRow) (b : Bool) → option_map (λ (r : TemplateRow). r.template) (find (λ (r : TemplateRow). p r.template) rows) ≡ find p (templates_of rows)
    → option_map (λ (r : TemplateRow). r.template) (cond b (Some row) (find (λ (r : TemplateRow). p r.template) rows)) ≡ cond b (Some row.template) (find p (templates_of rows))
found_by p row rows true rest = refl
found_by p row rows false rest = rest

find_template : (p : Template → Bool) (rows : List TemplateRow) → option_map (λ (r : TemplateRow). r.template) (find (λ (r : TemplateRow). p r.template) rows) ≡ find p (templates_of rows)
find_template p [] = refl
find_template p (row ∷ rows) = found_by p row rows (p row.template) (find_template p rows)

pub of_key : (key : TemplateKey) (rows : List TemplateRow) (o : Option TemplateRow) → o ≡ find (has_key key) rows → option_map (λ (r : TemplateRow). r.template) o ≡ template_at key (templates_of rows)
of_key key rows o is = ap (option_map (λ (r : TemplateRow). r.template)) is ∙ find_template (λ (t : Template). has_key key (new_row t)) rows

pub of_id : (id : TemplateId) (rows : List TemplateRow) (o : Option TemplateRow) → o ≡ find (has_id id) rows → option_map (λ (r : TemplateRow). r.template) o ≡ template_of_id id (templates_of rows)
of_id id rows o is = ap (option_map (λ (r : TemplateRow). r.template)) is ∙ find_template (λ (t : Template). has_id id (new_row t)) rows

-- ---- a template of an id above all

abbrev pub AreBelow : ℕ → List TemplateRow → Type 0
AreBelow id rows = AllByRecursion (λ (row : TemplateRow). row.template.id.0 < id) rows

not_less : (a b : ℕ) → a < b → nat_lt b a ≡ false
not_less a b less = grind (arith, nat_tests)

differs : (a b : ℕ) → a < b → (b == a) ≡ false
differs a b less = grind (arith, nat_tests)

insert_last : (row : TemplateRow) (rows : List TemplateRow) → AreBelow row.template.id.0 rows → insert_row row rows ≡ rows ++ row ∷ []
insert_last row [] below = refl
insert_last row (other ∷ rows) below = rw (not_less other.template.id.0 row.template.id.0 below.0) (ap (λ rs. other ∷ rs) (insert_last row rows below.1))

kept_below : (id : ℕ) (row : TemplateRow) (kept : List TemplateRow) (b : Bool) → row.template.id.0 < id → AreBelow id kept → AreBelow id (cond b (row ∷ kept) kept)
kept_below id row kept true here below = (here, below)
kept_below id row kept false here below = below

without_below : (id : ℕ) (p : TemplateRow → Bool) (rows : List TemplateRow) → AreBelow id rows → AreBelow id (without p rows)
without_below id p [] below = tt
without_below id p (row ∷ rows) below = kept_below id row (without p rows) (not (p row)) below.0 (without_below id p rows below.1)

first_below : (id : ℕ) (p : TemplateRow → Bool) (row other : TemplateRow) (rows : List TemplateRow) (b : Bool) → other.template.id.0 < id → (find p rows ≡ Some row → row.template.id.0 < id) → cond b (Some other) (find p rows) ≡ Some row → row.template.id.0 < id
first_below id p row other rows true here rest found = subst (λ (r : TemplateRow). r.template.id.0 < id) (same_Some other row found) here
first_below id p row other rows false here rest found = rest found

found_below : (id : ℕ) (p : TemplateRow → Bool) (row : TemplateRow) (rows : List TemplateRow) → AreBelow id rows → find p rows ≡ Some row → row.template.id.0 < id
found_below id p row [] below found = absurd (cc)
found_below id p row (other ∷ rows) below found = first_below id p row other rows (p other) below.0 (found_below id p row rows below.1) found

without_by : (p : TemplateRow → Bool) (row : TemplateRow) (rows : List TemplateRow) (b : Bool) → (find p rows ≡ None → rows ≡ without p rows) → cond b (Some row) (find p rows) ≡ None → row ∷ rows ≡ cond (not b) (row ∷ without p rows) (without p rows)
without_by p row rows true rest none = absurd (cc)
without_by p row rows false rest none = ap (λ rs. row ∷ rs) (rest none)

without_missed : (p : TemplateRow → Bool) (rows : List TemplateRow) → find p rows ≡ None → rows ≡ without p rows
without_missed p [] none = refl
without_missed p (row ∷ rows) none = without_by p row rows (p row) (without_missed p rows) none

put_above_by : (template : Template) (rows : List TemplateRow) → AreBelow template.id.0 rows → (o : Option TemplateRow) → find (has_key template.key) rows ≡ o → put_by template o rows ≡ without (has_key template.key) rows ++ new_row template ∷ []
put_above_by template rows below None found =
    insert_last (new_row template) rows below ∙ ap (λ rs. rs ++ new_row template ∷ []) (without_missed (has_key template.key) rows found)
put_above_by template rows below (Some old) found =
    rw (differs old.template.id.0 template.id.0 (found_below template.id.0 (has_key template.key) old rows below found))
    (insert_last (new_row template) (without (has_key template.key) rows) (without_below template.id.0 (has_key template.key) rows below))

-- it stands last, and the one of its key is gone
pub put_above : (template : Template) (rows : List TemplateRow) → AreBelow template.id.0 rows → put template rows ≡ without (has_key template.key) rows ++ new_row template ∷ []
put_above template rows below = put_above_by template rows below (find (has_key template.key) rows) refl
