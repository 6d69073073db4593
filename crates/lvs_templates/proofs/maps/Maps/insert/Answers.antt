use Rattle.lvs_templates.specs.Maps.{in_order}
use Rattle.lvs_templates.proofs.InOrder.{ordered}
use Rattle.lvs_templates.proofs.Changes.{new_id, store_insert, rows_inserted}
use Rattle.lvs_templates.proofs.maps.Maps.insert.Goals as goal

pub enter-requires-clause-new_id : goal.enter-requires-clause-new_id
enter-requires-clause-new_id c = new_id c.args.row (in_order c.args.self.now.rows.entries) c.args.self.now.ids.entries c.requires.whole.store c.requires.new_id c.requires.new_key

pub returns-clause-whole : goal.returns-clause-whole
returns-clause-whole c = record {
  unique = c.enter.ensures.unique;
  store = store_insert c.args.row (in_order c.args.self.now.rows.entries) (in_order c.enter.new.self.rows.entries) c.args.self.now.ids.entries c.enter.new.self.ids.entries c.requires.whole.store c.requires.new_id c.requires.new_key
      (ordered c.enter.new.self.rows.entries c.enter.ensures.unique) c.enter.ensures.rows c.enter.ensures.ids;
  room = c.enter.ensures.has_room;
}

pub returns-clause-rows : goal.returns-clause-rows
returns-clause-rows c =
    rows_inserted c.args.row (in_order c.args.self.now.rows.entries) (in_order c.enter.new.self.rows.entries) c.args.self.now.ids.entries c.requires.whole.store c.requires.new_id c.requires.new_key c.enter.ensures.entries
