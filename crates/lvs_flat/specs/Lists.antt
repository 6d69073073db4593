-- The state that the lists stand for.
use Rattle.std.specs.Prelude.{◌<◌, ◌≤◌, ◌^◌, vec_len, vec_capacity}
use Rattle.lvs_model.specs.State.{State}
use Rattle.lvs_flat.specs.declared.lists.Lists.{Lists}

abbrev pub state_of : Lists → State
state_of t = record {
  now = t.moment;
  local = t.local;
  buckets = t.buckets;
  settings = t.settings;
  daemons = t.daemons;
  services = t.services.items;
  dests = t.dests.items;
  templates = t.templates.items;
  entries = t.entries.items;
  pending = t.pending.items;
  next_entry = t.next_entry;
  next_dest = t.next_dest;
  next_template = t.next_template;
}

-- there is room for one more entry
pub record HasEntryRoom (t : Lists) : Type 0 where
  pub entries : vec_len t.entries < vec_capacity t.entries
  pub next_entry : t.next_entry ≤ 2 ^ 62

-- there is room for one more template
pub record HasTemplateRoom (t : Lists) : Type 0 where
  pub templates : vec_len t.templates < vec_capacity t.templates
  pub next_template : t.next_template ≤ 2 ^ 62
