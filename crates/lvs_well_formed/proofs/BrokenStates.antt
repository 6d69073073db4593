-- In each of these states one line of the well formed state is false, and all others hold.
use Rattle.std.proofs.Common.{◌≡◌, ◌<◌, ◌≤◌, true, false, refl, arith, lit<, lit≤, [], ◌∷◌, nat_eq}
use Rattle.lvs_model.specs.ExampleItems.{web, tunnel_source}
use Rattle.lvs_model.specs.Same.{key_eq, service_key_eq, template_key_eq}
use Rattle.lvs_model.specs.WellFormed.{IsWellFormed, place_eq, place_of}
use Rattle.lvs_well_formed.specs.Broken.{HasBroken, empty_state, entry_from, removed_server, template_from, two_services_of_a_key, two_entries_of_a_key, two_templates_of_a_key, an_entry_of_the_next_id, two_servers_of_an_id, a_template_of_id_0, two_servers_at_a_place, a_server_without_a_service, a_lower_threshold_above, a_cursor_at_no_server, an_entry_of_no_server, a_template_of_no_server, an_entry_that_goes_elsewhere, an_entry_of_the_next_template, a_tcp_entry_without_a_state, a_record_that_waits_for_no_master}
use Rattle.lvs_well_formed.proofs.Distinct.{distinct_none, distinct_cons, distinct_parts}
use Rattle.lvs_well_formed.proofs.Steps.{initial_well_formed}

-- where nothing is added, all holds as at the beginning
w : IsWellFormed empty_state
w = initial_well_formed tunnel_source 1

pub breaks_service_keys : HasBroken 1 two_services_of_a_key
breaks_service_keys = record {
  service_keys = λ apart. let wrong : true ≡ false = (distinct_parts service_key_eq web (web ∷ []) apart).0.0 in absurd cc;
  entry_keys = w.entry_keys;
  template_keys = w.template_keys;
  entry_ids = w.entry_ids;
  dest_ids = w.dest_ids;
  template_ids = w.template_ids;
  places = w.places;
  live_dests = w.live_dests;
  thresholds = w.thresholds;
  cursors = (tt, (tt, tt));
  entry_servers = w.entry_servers;
  template_servers = w.template_servers;
  bound_entries = w.bound_entries;
  entry_templates = w.entry_templates;
  entry_states = w.entry_states;
  pending = w.pending;
}

pub breaks_entry_keys : HasBroken 2 two_entries_of_a_key
breaks_entry_keys = record {
  service_keys = w.service_keys;
  entry_keys = λ apart. let wrong : true ≡ false = (distinct_parts key_eq (entry_from 1 40000).key ((entry_from 2 40000).key ∷ []) apart).0.0 in absurd cc;
  template_keys = w.template_keys;
  entry_ids = record { begins = lit≤ tt; each = ((lit≤ tt, lit< tt), ((lit≤ tt, lit< tt), tt)); apart = distinct_cons nat_eq 1 (2 ∷ []) (refl, tt) (distinct_cons nat_eq 2 [] tt (distinct_none nat_eq)) };
  dest_ids = w.dest_ids;
  template_ids = w.template_ids;
  places = w.places;
  live_dests = w.live_dests;
  thresholds = w.thresholds;
  cursors = w.cursors;
  entry_servers = (tt, (tt, tt));
  template_servers = w.template_servers;
  bound_entries = (tt, (tt, tt));
  entry_templates = (tt, (tt, tt));
  entry_states = (refl, (refl, tt));
  pending = w.pending;
}

pub breaks_template_keys : HasBroken 3 two_templates_of_a_key
breaks_template_keys = record {
  service_keys = w.service_keys;
  entry_keys = w.entry_keys;
  template_keys = λ apart. let wrong : true ≡ false = (distinct_parts template_key_eq (template_from 1 9).key ((template_from 2 9).key ∷ []) apart).0.0 in absurd cc;
  entry_ids = w.entry_ids;
  dest_ids = w.dest_ids;
  template_ids = record { begins = lit≤ tt; each = ((lit≤ tt, lit< tt), ((lit≤ tt, lit< tt), tt)); apart = distinct_cons nat_eq 1 (2 ∷ []) (refl, tt) (distinct_cons nat_eq 2 [] tt (distinct_none nat_eq)) };
  places = w.places;
  live_dests = w.live_dests;
  thresholds = w.thresholds;
  cursors = w.cursors;
  entry_servers = w.entry_servers;
  template_servers = (tt, (tt, tt));
  bound_entries = w.bound_entries;
  entry_templates = w.entry_templates;
  entry_states = w.entry_states;
  pending = w.pending;
}

pub breaks_entry_ids : HasBroken 4 an_entry_of_the_next_id
breaks_entry_ids = record {
  service_keys = w.service_keys;
  entry_keys = distinct_cons key_eq (entry_from 1 40000).key [] tt (distinct_none key_eq);
  template_keys = w.template_keys;
  entry_ids = λ drawn. let wrong : 1 < 1 = drawn.each.0.1 in absurd (omega (arith, wrong));
  dest_ids = w.dest_ids;
  template_ids = w.template_ids;
  places = w.places;
  live_dests = w.live_dests;
  thresholds = w.thresholds;
  cursors = w.cursors;
  entry_servers = (tt, tt);
  template_servers = w.template_servers;
  bound_entries = (tt, tt);
  entry_templates = (tt, tt);
  entry_states = (refl, tt);
  pending = w.pending;
}

pub breaks_dest_ids : HasBroken 5 two_servers_of_an_id
breaks_dest_ids = record {
  service_keys = w.service_keys;
  entry_keys = w.entry_keys;
  template_keys = w.template_keys;
  entry_ids = w.entry_ids;
  dest_ids = λ drawn. let wrong : true ≡ false = (distinct_parts nat_eq 1 (1 ∷ []) drawn.apart).0.0 in absurd cc;
  template_ids = w.template_ids;
  places = distinct_cons place_eq (place_of (removed_server 1 1)) ((place_of (removed_server 1 2)) ∷ []) (refl, tt) (distinct_cons place_eq (place_of (removed_server 1 2)) [] tt (distinct_none place_eq));
  live_dests = ((λ live. absurd cc), ((λ live. absurd cc), tt));
  thresholds = (refl, (refl, tt));
  cursors = w.cursors;
  entry_servers = w.entry_servers;
  template_servers = w.template_servers;
  bound_entries = w.bound_entries;
  entry_templates = w.entry_templates;
  entry_states = w.entry_states;
  pending = w.pending;
}

pub breaks_template_ids : HasBroken 6 a_template_of_id_0
breaks_template_ids = record {
  service_keys = w.service_keys;
  entry_keys = w.entry_keys;
  template_keys = distinct_cons template_key_eq (template_from 0 9).key [] tt (distinct_none template_key_eq);
  entry_ids = w.entry_ids;
  dest_ids = w.dest_ids;
  template_ids = λ drawn. let wrong : 1 ≤ 0 = drawn.each.0.0 in absurd (omega (arith, wrong));
  places = w.places;
  live_dests = w.live_dests;
  thresholds = w.thresholds;
  cursors = w.cursors;
  entry_servers = w.entry_servers;
  template_servers = (tt, tt);
  bound_entries = w.bound_entries;
  entry_templates = w.entry_templates;
  entry_states = w.entry_states;
  pending = w.pending;
}

pub breaks_places : HasBroken 7 two_servers_at_a_place
breaks_places = record {
  service_keys = w.service_keys;
  entry_keys = w.entry_keys;
  template_keys = w.template_keys;
  entry_ids = w.entry_ids;
  dest_ids = record { begins = lit≤ tt; each = ((lit≤ tt, lit< tt), ((lit≤ tt, lit< tt), tt)); apart = distinct_cons nat_eq 1 (2 ∷ []) (refl, tt) (distinct_cons nat_eq 2 [] tt (distinct_none nat_eq)) };
  template_ids = w.template_ids;
  places = λ apart. let wrong : true ≡ false = (distinct_parts place_eq (place_of (removed_server 1 1)) ((place_of (removed_server 2 1)) ∷ []) apart).0.0 in absurd cc;
  live_dests = ((λ live. absurd cc), ((λ live. absurd cc), tt));
  thresholds = (refl, (refl, tt));
  cursors = w.cursors;
  entry_servers = w.entry_servers;
  template_servers = w.template_servers;
  bound_entries = w.bound_entries;
  entry_templates = w.entry_templates;
  entry_states = w.entry_states;
  pending = w.pending;
}

pub breaks_live_dests : HasBroken 8 a_server_without_a_service
breaks_live_dests = record {
  service_keys = w.service_keys;
  entry_keys = w.entry_keys;
  template_keys = w.template_keys;
  entry_ids = w.entry_ids;
  dest_ids = record { begins = lit≤ tt; each = ((lit≤ tt, lit< tt), tt); apart = distinct_cons nat_eq 1 [] tt (distinct_none nat_eq) };
  template_ids = w.template_ids;
  places = distinct_cons place_eq (place_of (removed_server 1 1)) [] tt (distinct_none place_eq);
  live_dests = λ live. let wrong : false ≡ true = live.0 refl in absurd cc;
  thresholds = (refl, tt);
  cursors = w.cursors;
  entry_servers = w.entry_servers;
  template_servers = w.template_servers;
  bound_entries = w.bound_entries;
  entry_templates = w.entry_templates;
  entry_states = w.entry_states;
  pending = w.pending;
}

pub breaks_thresholds : HasBroken 9 a_lower_threshold_above
breaks_thresholds = record {
  service_keys = w.service_keys;
  entry_keys = w.entry_keys;
  template_keys = w.template_keys;
  entry_ids = w.entry_ids;
  dest_ids = record { begins = lit≤ tt; each = ((lit≤ tt, lit< tt), tt); apart = distinct_cons nat_eq 1 [] tt (distinct_none nat_eq) };
  template_ids = w.template_ids;
  places = distinct_cons place_eq (place_of (removed_server 1 1)) [] tt (distinct_none place_eq);
  live_dests = ((λ live. absurd cc), tt);
  thresholds = λ good. let wrong : true ≡ false = good.0 in absurd cc;
  cursors = w.cursors;
  entry_servers = w.entry_servers;
  template_servers = w.template_servers;
  bound_entries = w.bound_entries;
  entry_templates = w.entry_templates;
  entry_states = w.entry_states;
  pending = w.pending;
}

pub breaks_cursors : HasBroken 10 a_cursor_at_no_server
breaks_cursors = record {
  service_keys = distinct_cons service_key_eq web [] tt (distinct_none service_key_eq);
  entry_keys = w.entry_keys;
  template_keys = w.template_keys;
  entry_ids = w.entry_ids;
  dest_ids = w.dest_ids;
  template_ids = w.template_ids;
  places = w.places;
  live_dests = w.live_dests;
  thresholds = w.thresholds;
  cursors = λ cursors. let wrong : false ≡ true = cursors.0 in absurd cc;
  entry_servers = w.entry_servers;
  template_servers = w.template_servers;
  bound_entries = w.bound_entries;
  entry_templates = w.entry_templates;
  entry_states = w.entry_states;
  pending = w.pending;
}

pub breaks_entry_servers : HasBroken 11 an_entry_of_no_server
breaks_entry_servers = record {
  service_keys = w.service_keys;
  entry_keys = distinct_cons key_eq (entry_from 1 40000).key [] tt (distinct_none key_eq);
  template_keys = w.template_keys;
  entry_ids = record { begins = lit≤ tt; each = ((lit≤ tt, lit< tt), tt); apart = distinct_cons nat_eq 1 [] tt (distinct_none nat_eq) };
  dest_ids = w.dest_ids;
  template_ids = w.template_ids;
  places = w.places;
  live_dests = w.live_dests;
  thresholds = w.thresholds;
  cursors = w.cursors;
  entry_servers = λ there. let wrong : false ≡ true = there.0 in absurd cc;
  template_servers = w.template_servers;
  bound_entries = (tt, tt);
  entry_templates = (tt, tt);
  entry_states = (refl, tt);
  pending = w.pending;
}

pub breaks_template_servers : HasBroken 12 a_template_of_no_server
breaks_template_servers = record {
  service_keys = w.service_keys;
  entry_keys = w.entry_keys;
  template_keys = distinct_cons template_key_eq (template_from 1 9).key [] tt (distinct_none template_key_eq);
  entry_ids = w.entry_ids;
  dest_ids = w.dest_ids;
  template_ids = record { begins = lit≤ tt; each = ((lit≤ tt, lit< tt), tt); apart = distinct_cons nat_eq 1 [] tt (distinct_none nat_eq) };
  places = w.places;
  live_dests = w.live_dests;
  thresholds = w.thresholds;
  cursors = w.cursors;
  entry_servers = w.entry_servers;
  template_servers = λ there. let wrong : false ≡ true = there.0 in absurd cc;
  bound_entries = w.bound_entries;
  entry_templates = w.entry_templates;
  entry_states = w.entry_states;
  pending = w.pending;
}

pub breaks_bound_entries : HasBroken 13 an_entry_that_goes_elsewhere
breaks_bound_entries = record {
  service_keys = w.service_keys;
  entry_keys = distinct_cons key_eq (entry_from 1 40000).key [] tt (distinct_none key_eq);
  template_keys = w.template_keys;
  entry_ids = record { begins = lit≤ tt; each = ((lit≤ tt, lit< tt), tt); apart = distinct_cons nat_eq 1 [] tt (distinct_none nat_eq) };
  dest_ids = record { begins = lit≤ tt; each = ((lit≤ tt, lit< tt), tt); apart = distinct_cons nat_eq 1 [] tt (distinct_none nat_eq) };
  template_ids = w.template_ids;
  places = distinct_cons place_eq (place_of (removed_server 1 2)) [] tt (distinct_none place_eq);
  live_dests = ((λ live. absurd cc), tt);
  thresholds = (refl, tt);
  cursors = w.cursors;
  entry_servers = (refl, tt);
  template_servers = w.template_servers;
  bound_entries = λ goes. let wrong : false ≡ true = goes.0 in absurd cc;
  entry_templates = (tt, tt);
  entry_states = (refl, tt);
  pending = w.pending;
}

pub breaks_entry_templates : HasBroken 14 an_entry_of_the_next_template
breaks_entry_templates = record {
  service_keys = w.service_keys;
  entry_keys = distinct_cons key_eq (entry_from 1 40000).key [] tt (distinct_none key_eq);
  template_keys = w.template_keys;
  entry_ids = record { begins = lit≤ tt; each = ((lit≤ tt, lit< tt), tt); apart = distinct_cons nat_eq 1 [] tt (distinct_none nat_eq) };
  dest_ids = w.dest_ids;
  template_ids = w.template_ids;
  places = w.places;
  live_dests = w.live_dests;
  thresholds = w.thresholds;
  cursors = w.cursors;
  entry_servers = (tt, tt);
  template_servers = w.template_servers;
  bound_entries = (tt, tt);
  entry_templates = λ older. let wrong : 1 < 1 = older.0 in absurd (omega (arith, wrong));
  entry_states = (refl, tt);
  pending = w.pending;
}

pub breaks_entry_states : HasBroken 15 a_tcp_entry_without_a_state
breaks_entry_states = record {
  service_keys = w.service_keys;
  entry_keys = distinct_cons key_eq (entry_from 1 40000).key [] tt (distinct_none key_eq);
  template_keys = w.template_keys;
  entry_ids = record { begins = lit≤ tt; each = ((lit≤ tt, lit< tt), tt); apart = distinct_cons nat_eq 1 [] tt (distinct_none nat_eq) };
  dest_ids = w.dest_ids;
  template_ids = w.template_ids;
  places = w.places;
  live_dests = w.live_dests;
  thresholds = w.thresholds;
  cursors = w.cursors;
  entry_servers = (tt, tt);
  template_servers = w.template_servers;
  bound_entries = (tt, tt);
  entry_templates = (tt, tt);
  entry_states = λ states. let wrong : true ≡ false = states.0 in absurd cc;
  pending = w.pending;
}

pub breaks_pending : HasBroken 16 a_record_that_waits_for_no_master
breaks_pending = record {
  service_keys = w.service_keys;
  entry_keys = w.entry_keys;
  template_keys = w.template_keys;
  entry_ids = w.entry_ids;
  dest_ids = w.dest_ids;
  template_ids = w.template_ids;
  places = w.places;
  live_dests = w.live_dests;
  thresholds = w.thresholds;
  cursors = w.cursors;
  entry_servers = w.entry_servers;
  template_servers = w.template_servers;
  bound_entries = w.bound_entries;
  entry_templates = w.entry_templates;
  entry_states = w.entry_states;
  pending = λ quiet. let none = quiet refl in absurd cc;
}
