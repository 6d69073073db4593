use Rattle.std.proofs.Common.{◌∙◌, ◌≡◌, Some, None, sym, ap, arith}
use Rattle.std.specs.Map.{values_of}
use Rattle.lvs_templates.specs.Maps.{in_order, id_at, rows_of}
use Rattle.lvs_templates.proofs.InOrder.{ordered, row_sorted, rows_put, sorted_remove}
use Rattle.lvs_templates.proofs.Store.{find_key, no_key, without_none, without_one}
use Rattle.lvs_templates.proofs.Changes.{store_leave}
use Rattle.lvs_templates.proofs.Put.{of_key}
use Rattle.lvs_templates.proofs.maps.Maps.leave.Goals as goal

pub returns-in_default-clause-template : goal.returns-in_default-clause-template
returns-in_default-clause-template c =
    let led : id_at c.args.self.now.ids.entries c.args.key.now ≡ None = sym c.remove.ensures.value ∙ c.in_default.is in
    of_key c.args.key.now (rows_of c.args.self.now) None (no_key c.args.key.now (in_order c.args.self.now.rows.entries) c.args.self.now.ids.entries c.requires.store led)

pub returns-in_default-clause-rows : goal.returns-in_default-clause-rows
returns-in_default-clause-rows c =
    let led : id_at c.args.self.now.ids.entries c.args.key.now ≡ None = sym c.remove.ensures.value ∙ c.in_default.is in
    without_none c.args.key.now (in_order c.args.self.now.rows.entries) c.args.self.now.ids.entries c.requires.store led

pub returns-clause-whole : goal.returns-clause-whole
returns-clause-whole c =
    let old = c.args.self.now.rows.entries in
    let new = c.remove-2.new.self.entries in
    let led : id_at c.args.self.now.ids.entries c.args.key.now ≡ Some c.in-Some.id = sym c.remove.ensures.value ∙ c.in-Some.is in
    let had = c.requires.room.rows in
    let had_ids = c.requires.room.ids in
    let more = c.remove-2.ensures.spare in
    let more_ids = c.remove.ensures.spare in
    record {
      unique = c.remove-2.ensures.unique;
      store = store_leave c.args.key.now c.in-Some.id (in_order old) (in_order new) c.args.self.now.ids.entries c.remove.new.self.entries c.requires.store led
          (ordered new c.remove-2.ensures.unique) (rows_put old new c.in-Some.id None c.requires.unique c.remove-2.ensures.unique c.remove-2.ensures.updates.0) c.remove.ensures.updates.0;
      room = record { rows = omega arith; ids = omega arith };
    }

pub returns-clause-template : goal.returns-clause-template
returns-clause-template c =
    let led : id_at c.args.self.now.ids.entries c.args.key.now ≡ Some c.in-Some.id = sym c.remove.ensures.value ∙ c.in-Some.is in
    of_key c.args.key.now (rows_of c.args.self.now) c.remove-2.result
    (c.remove-2.ensures.value ∙ sym (row_sorted c.args.self.now.rows.entries c.requires.unique c.in-Some.id)
    ∙ find_key c.args.key.now c.in-Some.id (in_order c.args.self.now.rows.entries) c.args.self.now.ids.entries c.requires.store led)

pub returns-clause-rows : goal.returns-clause-rows
returns-clause-rows c =
    let old = c.args.self.now.rows.entries in
    let new = c.remove-2.new.self.entries in
    let led : id_at c.args.self.now.ids.entries c.args.key.now ≡ Some c.in-Some.id = sym c.remove.ensures.value ∙ c.in-Some.is in
    ap values_of (sorted_remove c.in-Some.id old new c.requires.unique c.remove-2.ensures.unique c.remove-2.ensures.entries)
    ∙ sym (without_one c.args.key.now c.in-Some.id (in_order old) c.args.self.now.ids.entries c.requires.store led)
