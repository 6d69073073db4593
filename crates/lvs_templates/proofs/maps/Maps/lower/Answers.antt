use Rattle.std.proofs.Common.{◌≡◌, ◌∙◌, ◌-◌, ◌<◌, refl, sym, ap, arith, Some, None}
use Rattle.std.specs.Map.{values_of}
use Rattle.std.specs.Option.{option_copied_mut}
use Rattle.lvs_templates.specs.declared.row.TemplateRow.{TemplateRow}
use Rattle.lvs_templates.specs.Maps.{in_order, row_at}
use Rattle.lvs_templates.proofs.InOrder.{row_sorted, sorted_set}
use Rattle.lvs_templates.proofs.Changes.{holds_at, rows_recount, rows_uncounted, store_same_template}
use Rattle.lvs_templates.proofs.maps.Maps.lower.Goals as goal

pub overflow_sub-row : goal.overflow_sub-row
overflow_sub-row c =
    let old = c.args.self.now.rows.entries in
    let was : row_at (in_order old) c.args.id.0 ≡ Some c.in-Some.row.now = row_sorted old c.requires.whole.unique c.args.id.0 ∙ sym c.in-Some.ensures.value in
    let fact = holds_at (λ (row : TemplateRow). 0 < row.controls) c.args.id c.in-Some.row.now (in_order old) c.args.self.now.ids.entries c.requires.whole.store was c.requires.some in
    omega arith

pub returns-in-Some-clause-whole : goal.returns-in-Some-clause-whole
returns-in-Some-clause-whole c =
    let old = c.args.self.now.rows.entries in
    let row : TemplateRow = record { template = c.in-Some.row.now.template; controls = c.in-Some.row.now.controls - 1 } in
    let new = c.get_mut.follows.lender row in
    let held = c.get_mut.follows.holds row in
    let was : row_at (in_order old) c.args.id.0 ≡ Some c.in-Some.row.now = row_sorted old c.requires.whole.unique c.args.id.0 ∙ sym c.in-Some.ensures.value in
    let same = held.6 in
    let had = c.requires.whole.room.rows in
    record {
      unique = held.4;
      store = store_same_template c.args.id.0 c.in-Some.row.now row (in_order old) (in_order new.entries) c.args.self.now.ids.entries c.requires.whole.store was refl
          (sorted_set c.args.id.0 row old new.entries c.requires.whole.unique held.0);
      room = record { rows = omega arith; ids = c.requires.whole.room.ids };
    }

pub returns-in-Some-clause-rows : goal.returns-in-Some-clause-rows
returns-in-Some-clause-rows c =
    let old = c.args.self.now.rows.entries in
    let row : TemplateRow = record { template = c.in-Some.row.now.template; controls = c.in-Some.row.now.controls - 1 } in
    let new = c.get_mut.follows.lender row in
    let held = c.get_mut.follows.holds row in
    let was : row_at (in_order old) c.args.id.0 ≡ Some c.in-Some.row.now = row_sorted old c.requires.whole.unique c.args.id.0 ∙ sym c.in-Some.ensures.value in
    rows_recount (λ n. n - 1) c.args.id c.in-Some.row.now (in_order old) (in_order new.entries) c.args.self.now.ids.entries c.requires.whole.store was
    (sorted_set c.args.id.0 row old new.entries c.requires.whole.unique held.0)

pub returns-in_default-clause-rows : goal.returns-in_default-clause-rows
returns-in_default-clause-rows c =
    let old = c.args.self.now.rows.entries in
    let none : row_at (in_order old) c.args.id.0 ≡ None = row_sorted old c.requires.whole.unique c.args.id.0 ∙ sym c.get_mut.ensures.value ∙ ap option_copied_mut c.in_default.is in
    ap (λ m. values_of (in_order m.entries)) c.get_mut.follows.holds-at-none ∙ rows_uncounted (λ n. n - 1) c.args.id (in_order old) c.args.self.now.ids.entries c.requires.whole.store none
