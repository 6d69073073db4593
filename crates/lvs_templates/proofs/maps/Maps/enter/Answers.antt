use Rattle.std.proofs.Common.{◌≡◌, ◌∙◌, sym, Some, None}
use Rattle.lvs_templates.proofs.InOrder.{row_sorted, rows_put, sorted_enter}
use Rattle.lvs_templates.proofs.Entered.{ok_holds, ok_on, moved_by}
use Rattle.lvs_templates.proofs.maps.Maps.enter.Goals as goal

pub returns-clause-entries : goal.returns-clause-entries
returns-clause-entries c =
    let id = c.args.row.template.id.0 in
    let old = c.args.self.now.rows.entries in
    let new = c.insert-entered.new.self.entries in
    let was = ok_holds c.insert-entered.result c.unwrap.result _ c.unwrap.ensures c.insert-entered.ensures.old in
    let none : c.unwrap.result ≡ None = was ∙ sym (row_sorted old c.requires.whole.unique id) ∙ c.requires.new_id in
    sorted_enter id c.args.row old new c.insert-entered.ensures.unique c.requires.new_id
    (moved_by id c.args.row old new c.unwrap.result none (ok_holds c.insert-entered.result c.unwrap.result _ c.unwrap.ensures c.insert-entered.ensures.entries))

pub returns-clause-rows : goal.returns-clause-rows
returns-clause-rows c =
    rows_put c.args.self.now.rows.entries c.insert-entered.new.self.entries c.args.row.template.id.0 (Some c.args.row) c.requires.whole.unique c.insert-entered.ensures.unique
    (ok_on c.insert-entered.result c.unwrap.result _ c.unwrap.ensures c.insert-entered.ensures.updates).0
