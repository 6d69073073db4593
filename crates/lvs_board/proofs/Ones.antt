-- One call on the rows of servers and templates is the change of each row.
use Rattle.std.proofs.Common.{◌≡◌, ◌+◌, ◌-◌, ℕ, Bool, cond, List, [], ◌∷◌, Option, Some, None, refl, sym, ap, ◌∙◌, map, arith, nat_eq, if◌then◌else◌}
use Rattle.std.proofs.lemmas.Bool.Decides.{nat_tests}
use Rattle.lvs_types.specs.declared.addr.DestId.{DestId}
use Rattle.lvs_types.specs.declared.addr.TemplateId.{TemplateId}
use Rattle.lvs_types.specs.declared.dest.DestRow.{DestRow}
use Rattle.lvs_types.specs.declared.entry.Entry.{Entry}
use Rattle.lvs_model.specs.Counts.{is_made_by}
use Rattle.lvs_model.specs.Same.{dest_eq}
use Rattle.lvs_model.specs.Timeouts.{is_active}
use Rattle.lvs_dests.specs.Rows.{changed, bound, has_row_id}
use Rattle.lvs_templates.specs.declared.row.TemplateRow.{TemplateRow}
use Rattle.lvs_templates.specs.Rows.{has_id, recount}
use Rattle.lvs_board.specs.Endings.{come_one, less_one, more_one}
use Rattle.lvs_board.proofs.Rows.{here_by}

come_step : (id : DestId) (o : Option DestId) (b : Bool) (row : DestRow) → o ≡ Some id → (if has_row_id id row then bound b row else row) ≡ cond (dest_eq o row.dest.id) (bound b row) row
come_step id o b row names = ap (λ h. cond h (bound b row) row) (sym (here_by o id row.dest names))

pub one_come : (id : DestId) (e : Entry) (rows : List DestRow) → e.server ≡ Some id → changed (has_row_id id) (bound (is_active e.state)) rows ≡ map (come_one e) rows
one_come id e [] names = refl
one_come id e (row ∷ rows) names = rw (come_step id e.server (is_active e.state) row names) (ap (λ (rest : List DestRow). come_one e row ∷ rest) (one_come id e rows names))

none_step : (e : Entry) (row : DestRow) → e.server ≡ None → come_one e row ≡ row
none_step e row none = ap (λ (o : Option DestId). cond (dest_eq o row.dest.id) (bound (is_active e.state) row) row) none

pub none_come : (e : Entry) (rows : List DestRow) → e.server ≡ None → map (come_one e) rows ≡ rows
none_come e [] none = refl
none_come e (row ∷ rows) none = rw (none_step e row none) (ap (λ (rest : List DestRow). row ∷ rest) (none_come e rows none))

flip : (m n : ℕ) → nat_eq m n ≡ nat_eq n m
flip m n = grind (arith, nat_tests)

by_template : (o : Option TemplateId) (id : TemplateId) (row : TemplateRow) → o ≡ Some id → has_id id row ≡ is_made_by row.template.id o
by_template o id row is = flip row.template.id.0 id.0 ∙ sym (ap (is_made_by row.template.id) is)

abbrev recounted : (ℕ → ℕ) → Bool → TemplateRow → TemplateRow
recounted f here row = if here then record row { controls = f row.controls } else row

recounted_all : (f : ℕ → ℕ) (id : TemplateId) (o : Option TemplateId) (rows : List TemplateRow) → o ≡ Some id → recount f id rows ≡ map (λ (row : TemplateRow). recounted f (is_made_by row.template.id o) row) rows
recounted_all f id o [] is = refl
recounted_all f id o (row ∷ rows) is = rw (ap (λ here. recounted f here row) (by_template o id row is)) (ap (λ (rest : List TemplateRow). recounted f (is_made_by row.template.id o) row ∷ rest) (recounted_all f id o rows is))

pub one_less : (id : TemplateId) (e : Entry) (rows : List TemplateRow) → e.template ≡ Some id → recount (λ n. n - 1) id rows ≡ map (less_one e) rows
one_less id e rows is = recounted_all (λ n. n - 1) id e.template rows is

pub one_more : (id : TemplateId) (e : Entry) (rows : List TemplateRow) → e.template ≡ Some id → recount (λ n. n + 1) id rows ≡ map (more_one e) rows
one_more id e rows is = recounted_all (λ n. n + 1) id e.template rows is

unmade : (f : ℕ → ℕ) (o : Option TemplateId) (rows : List TemplateRow) → o ≡ None → map (λ (row : TemplateRow). recounted f (is_made_by row.template.id o) row) rows ≡ rows
unmade f o [] none = refl
unmade f o (row ∷ rows) none = rw (ap (λ (p : Option TemplateId). recounted f (is_made_by row.template.id p) row) none) (ap (λ (rest : List TemplateRow). row ∷ rest) (unmade f o rows none))

pub none_less : (e : Entry) (rows : List TemplateRow) → e.template ≡ None → map (less_one e) rows ≡ rows
none_less e rows none = unmade (λ n. n - 1) e.template rows none

pub none_more : (e : Entry) (rows : List TemplateRow) → e.template ≡ None → map (more_one e) rows ≡ rows
none_more e rows none = unmade (λ n. n + 1) e.template rows none
