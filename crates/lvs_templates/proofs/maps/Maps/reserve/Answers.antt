use Rattle.std.proofs.Common.{ap, arith}
use Rattle.std.specs.Map.{values_of}
use Rattle.lvs_templates.specs.Maps.{in_order}
use Rattle.lvs_templates.proofs.InOrder.{same_moved}
use Rattle.lvs_templates.proofs.Changes.{store_same}
use Rattle.lvs_templates.proofs.maps.Maps.reserve.Goals as goal

pub returns-in_err-reserve-2-clause-whole : goal.returns-in_err-reserve-2-clause-whole
returns-in_err-reserve-2-clause-whole c =
    let old = c.args.self.now.rows.entries in
    let new = c.reserve.new.self.entries in
    let had = c.requires.room.rows in
    let had_ids = c.requires.room.ids in
    let more = c.reserve.ensures.spare in
    let more_ids = c.reserve-2.ensures.spare in
    record {
      unique = c.reserve.ensures.unique;
      store = store_same (in_order old) (in_order new) c.args.self.now.ids.entries c.reserve-2.new.self.entries c.requires.store (same_moved old new c.reserve.ensures.unique c.reserve.ensures.entries.0) c.reserve-2.ensures.entries.2;
      room = record { rows = omega arith; ids = omega arith };
    }

pub returns-in_err-reserve-2-clause-rows : goal.returns-in_err-reserve-2-clause-rows
returns-in_err-reserve-2-clause-rows c = ap values_of (same_moved c.args.self.now.rows.entries c.reserve.new.self.entries c.reserve.ensures.unique c.reserve.ensures.entries.0)

pub returns-clause-whole : goal.returns-clause-whole
returns-clause-whole c =
    let old = c.args.self.now.rows.entries in
    let new = c.reserve.new.self.entries in
    record {
      unique = c.reserve.ensures.unique;
      store = store_same (in_order old) (in_order new) c.args.self.now.ids.entries c.reserve-2.new.self.entries c.requires.store (same_moved old new c.reserve.ensures.unique c.reserve.ensures.entries.0) c.reserve-2.ensures.entries.2;
      room = record { rows = c.in_ok-reserve.ensures.ok; ids = c.in_ok-reserve-2.ensures.ok };
    }

pub returns-clause-rows : goal.returns-clause-rows
returns-clause-rows c = ap values_of (same_moved c.args.self.now.rows.entries c.reserve.new.self.entries c.reserve.ensures.unique c.reserve.ensures.entries.0)
