use Rattle.std.proofs.Common.{◌∙◌, sym}
use Rattle.std.specs.Option.{option_copied}
use Rattle.lvs_templates.specs.Maps.{in_order, rows_of}
use Rattle.lvs_templates.proofs.Store.{find_id}
use Rattle.lvs_templates.proofs.Leaving.{are_distinct}
use Rattle.lvs_templates.proofs.Put.{of_id}
use Rattle.lvs_templates.proofs.InOrder.{row_sorted}
use Rattle.lvs_templates.proofs.maps.Maps.get.Goals as goal

pub returns-clause-row : goal.returns-clause-row
returns-clause-row c = c.get.ensures.value ∙ sym (row_sorted c.args.self.now.rows.entries c.requires.unique c.args.id.0) ∙ find_id c.args.id (in_order c.args.self.now.rows.entries) c.args.self.now.ids.entries c.requires.store

pub returns-clause-template : goal.returns-clause-template
returns-clause-template c =
    of_id c.args.id (rows_of c.args.self.now) (option_copied c.get.result)
    (c.get.ensures.value ∙ sym (row_sorted c.args.self.now.rows.entries c.requires.unique c.args.id.0) ∙ find_id c.args.id (in_order c.args.self.now.rows.entries) c.args.self.now.ids.entries c.requires.store)

pub returns-clause-apart : goal.returns-clause-apart
returns-clause-apart c = are_distinct (in_order c.args.self.now.rows.entries) c.args.self.now.ids.entries c.requires.store
