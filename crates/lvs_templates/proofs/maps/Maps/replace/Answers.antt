use Rattle.std.proofs.Common.{None, arith}
use Rattle.lvs_templates.specs.Maps.{in_order}
use Rattle.lvs_templates.proofs.InOrder.{ordered, rows_put, sorted_remove}
use Rattle.lvs_templates.proofs.Changes.{moved_id, store_replace, rows_replaced}
use Rattle.lvs_templates.proofs.maps.Maps.replace.Goals as goal

pub enter-requires-clause-new_id : goal.enter-requires-clause-new_id
enter-requires-clause-new_id c = moved_id c.args.row c.args.old (in_order c.args.self.now.rows.entries) c.args.self.now.ids.entries c.requires.whole.store c.requires.there c.requires.new_id c.requires.differ

pub returns-clause-whole : goal.returns-clause-whole
returns-clause-whole c =
    let entered = c.enter.new.self.rows.entries in
    let left = c.remove.new.self.entries in
    let had = c.enter.ensures.has_room.rows in
    let more = c.remove.ensures.spare in
    record {
      unique = c.remove.ensures.unique;
      store = store_replace c.args.row c.args.old (in_order c.args.self.now.rows.entries) (in_order entered) (in_order left) c.args.self.now.ids.entries c.enter.new.self.ids.entries
          c.requires.whole.store c.requires.there c.requires.new_id c.requires.differ c.enter.ensures.rows c.enter.ensures.ids (ordered left c.remove.ensures.unique)
          (rows_put entered left c.args.old.0 None c.enter.ensures.unique c.remove.ensures.unique c.remove.ensures.updates.0);
      room = record { rows = omega arith; ids = c.enter.ensures.has_room.ids };
    }

pub returns-clause-rows : goal.returns-clause-rows
returns-clause-rows c =
    let entered = c.enter.new.self.rows.entries in
    let left = c.remove.new.self.entries in
    rows_replaced c.args.row c.args.old (in_order c.args.self.now.rows.entries) (in_order entered) (in_order left) c.args.self.now.ids.entries
    c.requires.whole.store c.requires.there c.requires.new_id c.requires.differ c.enter.ensures.entries (ordered entered c.enter.ensures.unique) c.enter.ensures.rows
    (sorted_remove c.args.old.0 entered left c.enter.ensures.unique c.remove.ensures.unique c.remove.ensures.entries)
