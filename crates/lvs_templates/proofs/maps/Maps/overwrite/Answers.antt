use Rattle.std.proofs.Common.{◌≡◌, ◌∙◌, sym, ap, None, arith}
use Rattle.std.specs.Map.{values_of}
use Rattle.std.specs.Option.{option_copied_mut}
use Rattle.lvs_templates.specs.Maps.{in_order, row_at}
use Rattle.lvs_templates.proofs.InOrder.{row_sorted, sorted_set}
use Rattle.lvs_templates.proofs.Changes.{store_over, rows_over, rows_missed}
use Rattle.lvs_templates.proofs.maps.Maps.overwrite.Goals as goal

pub returns-in-Some-clause-whole : goal.returns-in-Some-clause-whole
returns-in-Some-clause-whole c =
    let old = c.args.self.now.rows.entries in
    let new = c.get_mut.follows.lender c.args.row in
    let held = c.get_mut.follows.holds c.args.row in
    let same = held.6 in
    let had = c.requires.whole.room.rows in
    record {
      unique = held.4;
      store = store_over c.args.row (in_order old) (in_order new.entries) c.args.self.now.ids.entries c.requires.whole.store c.requires.there
          (sorted_set c.args.row.template.id.0 c.args.row old new.entries c.requires.whole.unique held.0);
      room = record { rows = omega arith; ids = c.requires.whole.room.ids };
    }

pub returns-in-Some-clause-rows : goal.returns-in-Some-clause-rows
returns-in-Some-clause-rows c =
    let old = c.args.self.now.rows.entries in
    let new = c.get_mut.follows.lender c.args.row in
    let held = c.get_mut.follows.holds c.args.row in
    rows_over c.args.row (in_order old) (in_order new.entries) c.args.self.now.ids.entries c.requires.whole.store c.requires.there
    (sorted_set c.args.row.template.id.0 c.args.row old new.entries c.requires.whole.unique held.0)

pub returns-in_default-clause-rows : goal.returns-in_default-clause-rows
returns-in_default-clause-rows c =
    let old = c.args.self.now.rows.entries in
    let none : row_at (in_order old) c.args.row.template.id.0 ≡ None = row_sorted old c.requires.whole.unique c.args.row.template.id.0 ∙ sym c.get_mut.ensures.value ∙ ap option_copied_mut c.in_default.is in
    ap (λ m. values_of (in_order m.entries)) c.get_mut.follows.holds-at-none ∙ rows_missed c.args.row (in_order old) c.args.self.now.ids.entries c.requires.whole.store none
