use Rattle.std.proofs.Common.{◌∙◌, ◌≡◌, Some, None, sym}
use Rattle.std.specs.List.{find}
use Rattle.std.specs.Option.{option_copied}
use Rattle.lvs_templates.specs.Rows.{has_key}
use Rattle.lvs_templates.specs.Maps.{in_order, id_at, rows_of}
use Rattle.lvs_templates.proofs.Store.{find_key, no_key}
use Rattle.lvs_templates.proofs.Leaving.{are_distinct}
use Rattle.lvs_templates.proofs.Put.{of_key}
use Rattle.lvs_templates.proofs.InOrder.{row_sorted}
use Rattle.lvs_templates.proofs.maps.Maps.find.Goals as goal

pub returns-in-Some-clause-row : goal.returns-in-Some-clause-row
returns-in-Some-clause-row c =
    let led : id_at c.args.self.now.ids.entries c.args.key.now ≡ Some c.in-Some.id.now = sym c.in-Some.ensures.value in
    c.get-in-Some.ensures.value ∙ sym (row_sorted c.args.self.now.rows.entries c.requires.unique c.in-Some.id.now) ∙ find_key c.args.key.now c.in-Some.id.now (in_order c.args.self.now.rows.entries) c.args.self.now.ids.entries c.requires.store led

pub returns-in-Some-clause-template : goal.returns-in-Some-clause-template
returns-in-Some-clause-template c =
    let led : id_at c.args.self.now.ids.entries c.args.key.now ≡ Some c.in-Some.id.now = sym c.in-Some.ensures.value in
    let row : option_copied c.get-in-Some.result ≡ find (has_key c.args.key.now) (rows_of c.args.self.now) =
    c.get-in-Some.ensures.value ∙ sym (row_sorted c.args.self.now.rows.entries c.requires.unique c.in-Some.id.now) ∙ find_key c.args.key.now c.in-Some.id.now (in_order c.args.self.now.rows.entries) c.args.self.now.ids.entries c.requires.store led in
    of_key c.args.key.now (rows_of c.args.self.now) (option_copied c.get-in-Some.result) row

pub returns-in-Some-clause-apart : goal.returns-in-Some-clause-apart
returns-in-Some-clause-apart c = are_distinct (in_order c.args.self.now.rows.entries) c.args.self.now.ids.entries c.requires.store

pub returns-in-None-clause-row : goal.returns-in-None-clause-row
returns-in-None-clause-row c =
    let led : id_at c.args.self.now.ids.entries c.args.key.now ≡ None = sym c.in-None.ensures.value in
    no_key c.args.key.now (in_order c.args.self.now.rows.entries) c.args.self.now.ids.entries c.requires.store led

pub returns-in-None-clause-template : goal.returns-in-None-clause-template
returns-in-None-clause-template c =
    let led : id_at c.args.self.now.ids.entries c.args.key.now ≡ None = sym c.in-None.ensures.value in
    of_key c.args.key.now (rows_of c.args.self.now) None (no_key c.args.key.now (in_order c.args.self.now.rows.entries) c.args.self.now.ids.entries c.requires.store led)

pub returns-in-None-clause-apart : goal.returns-in-None-clause-apart
returns-in-None-clause-apart c = are_distinct (in_order c.args.self.now.rows.entries) c.args.self.now.ids.entries c.requires.store
