use Rattle.lvs_well_formed.proofs.broken_states.no_line_is_broken.Goals as goal

pub returns-clause-whole : goal.returns-clause-whole
returns-clause-whole c = λ s b. record {
  service_keys = b.service_keys;
  entry_keys = b.entry_keys;
  template_keys = b.template_keys;
  entry_ids = b.entry_ids;
  dest_ids = b.dest_ids;
  template_ids = b.template_ids;
  places = b.places;
  live_dests = b.live_dests;
  thresholds = b.thresholds;
  cursors = b.cursors;
  entry_servers = b.entry_servers;
  template_servers = b.template_servers;
  bound_entries = b.bound_entries;
  entry_templates = b.entry_templates;
  entry_states = b.entry_states;
  pending = b.pending;
}

pub returns-clause-unbroken : goal.returns-clause-unbroken
returns-clause-unbroken c = λ s w. record {
  service_keys = w.service_keys;
  entry_keys = w.entry_keys;
  template_keys = w.template_keys;
  entry_ids = w.entry_ids;
  dest_ids = w.dest_ids;
  template_ids = w.template_ids;
  places = w.places;
  live_dests = w.live_dests;
  thresholds = w.thresholds;
  cursors = w.cursors;
  entry_servers = w.entry_servers;
  template_servers = w.template_servers;
  bound_entries = w.bound_entries;
  entry_templates = w.entry_templates;
  entry_states = w.entry_states;
  pending = w.pending;
}
