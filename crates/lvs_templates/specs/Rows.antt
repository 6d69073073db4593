-- What a store of templates holds, and what its calls answer and leave (ipvsadm(8), -p; the times are this project's profile).
use Rattle.std.specs.Prelude.{ℕ, Bool, ◌&&◌, ◌==◌, nat_eq, nat_lt, List, [], ◌∷◌, Option, Some, None, map, if◌then◌else◌}
use Rattle.std.specs.List.{find, IsDistinct}
use Rattle.std.specs.List.Sorted.{IsStrictlyIncreasing}
use Rattle.lvs_types.specs.declared.addr.TemplateId.{TemplateId}
use Rattle.lvs_types.specs.declared.entry.Entry.{Entry}
use Rattle.lvs_types.specs.declared.template.TemplateKey.{TemplateKey}
use Rattle.lvs_types.specs.declared.template.Template.{Template}
use Rattle.lvs_model.specs.Same.{template_id_eq, template_key_eq}
use Rattle.lvs_model.specs.Lists.{without}
use Rattle.lvs_model.specs.Lookups.{has_template_key, has_template_id}
use Rattle.lvs_model.specs.Counts.{controls}
use Rattle.lvs_model.specs.Clock.{is_due_template, held_longer}
use Rattle.lvs_model.specs.WellFormed.{template_keys, template_ids}
use Rattle.lvs_templates.specs.declared.row.TemplateRow.{TemplateRow}

-- a template with the number of the entries that were made by it
abbrev pub template_row : List Entry → Template → TemplateRow
template_row entries t = record { template = t; controls = controls t.id entries }

-- a template by which no entry was made
abbrev pub new_row : Template → TemplateRow
new_row t = record { template = t; controls = 0 }

abbrev pub has_key : TemplateKey → TemplateRow → Bool
has_key key row = has_template_key key row.template

abbrev pub has_id : TemplateId → TemplateRow → Bool
has_id id row = has_template_id id row.template

abbrev pub templates_of : List TemplateRow → List Template
templates_of rows = map (λ row. row.template) rows

-- no two templates have one key, and no two have one id
pub record AreDistinct (rows : List TemplateRow) : Type 0 where
  pub keys : IsDistinct template_key_eq (template_keys (templates_of rows))
  pub ids : IsDistinct nat_eq (template_ids (templates_of rows))

-- a row at its place in the order of ids
abbrev pub insert_row : TemplateRow → List TemplateRow → List TemplateRow
insert_row row [] = row ∷ []
insert_row row (other ∷ rows) = if nat_lt row.template.id.0 other.template.id.0 then row ∷ other ∷ rows else other ∷ insert_row row rows

-- without the templates of the keys of some templates
abbrev pub without_all : List Template → List TemplateRow → List TemplateRow
without_all [] rows = rows
without_all (template ∷ templates) rows = without_all templates (without (has_key template.key) rows)

-- the row of the same id replaced
abbrev pub replace_row : TemplateRow → List TemplateRow → List TemplateRow
replace_row row rows = map (λ other. if has_id row.template.id other then row else other) rows

-- by the template of that key: the count of controls stays where it has the same id, and else begins at 0
abbrev pub put_by : Template → Option TemplateRow → List TemplateRow → List TemplateRow
put_by template None rows = insert_row (new_row template) rows
put_by template (Some old) rows =
    if template_id_eq template.id old.template.id
    then replace_row (record { template = template; controls = old.controls }) rows
    else insert_row (new_row template) (without (has_key template.key) rows)

-- a template in the place of the one of its key
abbrev pub put : Template → List TemplateRow → List TemplateRow
put template rows = put_by template (find (has_key template.key) rows) rows

-- with the count of controls of an id changed
abbrev pub recount : (ℕ → ℕ) → TemplateId → List TemplateRow → List TemplateRow
recount change id rows = map (λ row. if has_id id row then record row { controls = change row.controls } else row) rows

-- due and without controls: it leaves
abbrev pub leaves : ℕ → TemplateRow → Bool
leaves now row = is_due_template now row.template && (row.controls == 0)

-- due and with controls: it is renewed
abbrev pub is_renewed : ℕ → TemplateRow → Bool
is_renewed now row = is_due_template now row.template && nat_lt 0 row.controls

-- a renewed one holds for 60 seconds more
abbrev pub renew : ℕ → TemplateRow → TemplateRow
renew now row = if is_renewed now row then record row { template = held_longer now row.template } else row

-- what is left at a moment
abbrev pub after_due : ℕ → List TemplateRow → List TemplateRow
after_due now rows = map (renew now) (without (leaves now) rows)

-- in order of id, each id once
abbrev pub IsRising : List Template → Type 0
IsRising templates = IsStrictlyIncreasing (template_ids templates)
