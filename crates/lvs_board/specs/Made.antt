-- Which entries a new template finds that were made by it.
use Rattle.std.specs.Prelude.{Bool, false, cond}
use Rattle.lvs_types.specs.declared.addr.TemplateId.{TemplateId}
use Rattle.lvs_types.specs.declared.bucket.Change.{Change}
use Rattle.lvs_types.specs.declared.bucket.Change.TheVariants.{Keep, Put, Update, End, Swap, EndDue}
use Rattle.lvs_types.specs.declared.template.Template.{Template}
use Rattle.lvs_model.specs.Counts.{is_made_by}
use Rattle.lvs_templates.specs.declared.row.TemplateRow.{TemplateRow}

-- the new entry of the item was made by the template
abbrev pub new_is_made : TemplateId → Change → Bool
new_is_made id Keep = false
new_is_made id (Put e) = is_made_by id e.template
new_is_made id (Update e) = false
new_is_made id (End gone) = false
new_is_made id (Swap gone e) = is_made_by id e.template
new_is_made id (EndDue moment) = false

-- a template by which one entry was made, or none
abbrev pub made_row : Template → Bool → TemplateRow
made_row t made = record { template = t; controls = cond made 1 0 }
