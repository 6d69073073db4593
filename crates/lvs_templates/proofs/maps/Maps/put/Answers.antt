use Rattle.std.proofs.Common.{◌≡◌, ◌∙◌, ◌+◌, IsSomeAnd, Option, sym, ap, subst, refl}
use Rattle.std.specs.List.{find}
use Rattle.std.specs.Option.{option_copied}
use Rattle.lvs_templates.specs.declared.row.TemplateRow.{TemplateRow}
use Rattle.lvs_templates.specs.declared.maps.Maps.{Maps}
use Rattle.lvs_templates.specs.Rows.{has_id, has_key, new_row}
use Rattle.lvs_templates.specs.Maps.{in_order, rows_of}
use Rattle.lvs_templates.proofs.Changes.{also_there, new_row_id, moved_row_id}
use Rattle.lvs_templates.proofs.Entered.{has_template}
use Rattle.lvs_templates.proofs.Known.{never_none, never_other}
use Rattle.lvs_templates.proofs.Put.{of_id}
use Rattle.lvs_templates.proofs.maps.Maps.put.Goals as goal
use Rattle.lvs_templates.proofs.maps.Maps.put.Goals.{then-eq, else-eq}

pub overwrite-requires-clause-there : goal.overwrite-requires-clause-there
overwrite-requires-clause-there c =
    also_there c.args.template.id c.args.template.key c.in-Some.field-0.now (in_order c.args.self.now.rows.entries) c.args.self.now.ids.entries c.requires.whole.store (sym c.in-Some.ensures.row) (sym c.if-eq.ensures)

pub insert-requires-clause-room : goal.insert-requires-clause-room
insert-requires-clause-room c =
    c.requires.room (new_row_id (new_row c.args.template) (in_order c.args.self.now.rows.entries) c.args.self.now.ids.entries c.requires.whole.store c.requires.free (sym c.find.ensures.row ∙ ap option_copied c.in_default.is))

pub replace-requires-clause-room : goal.replace-requires-clause-room
replace-requires-clause-room c =
    let old = c.in-Some.field-0.now in
    let there : IsSomeAnd (find (has_key c.args.template.key) (rows_of c.args.self.now)) (λ other. other.template.id ≡ old.template.id) =
    subst (λ (o : Option TemplateRow). IsSomeAnd o (λ other. other.template.id ≡ old.template.id)) c.in-Some.ensures.row refl in
    c.requires.room (moved_row_id (new_row c.args.template) old.template.id (in_order c.args.self.now.rows.entries) c.args.self.now.ids.entries c.requires.whole.store there c.requires.free (sym c.if-eq.ensures))

pub returns-in_default-clause-kept : goal.returns-in_default-clause-kept
returns-in_default-clause-kept c = λ there.
    absurd (never_none c.args.template (in_order c.args.self.now.rows.entries) c.args.self.now.ids.entries c.requires.whole.store c.requires.free there (sym c.find.ensures.row ∙ ap option_copied c.in_default.is))

pub returns-clause-kept : goal.returns-clause-kept
returns-clause-kept c = λ there. elim c.if-eq.branch [
  | then-eq w ↦ ap (λ (m : Maps). m.room) w.self-is ∙ w.overwrite.ensures.room
  | else-eq w ↦ absurd (never_other c.args.template (in_order c.args.self.now.rows.entries) c.args.self.now.ids.entries c.requires.whole.store c.requires.free there c.in-Some.field-0.now (sym c.in-Some.ensures.row) (sym w.if-eq.ensures))
]

pub returns-clause-taken : goal.returns-clause-taken
returns-clause-taken c = λ none. elim c.if-eq.branch [
  | then-eq w ↦
      let there = also_there c.args.template.id c.args.template.key c.in-Some.field-0.now (in_order c.args.self.now.rows.entries) c.args.self.now.ids.entries c.requires.whole.store (sym c.in-Some.ensures.row) (sym w.if-eq.ensures) in
      absurd (has_template (find (has_id c.args.template.id) (rows_of c.args.self.now)) _ there (of_id c.args.template.id (rows_of c.args.self.now) _ refl ∙ none))
  | else-eq w ↦ ap (λ (m : Maps). m.room + 1) w.self-is ∙ w.replace.ensures.room
]
