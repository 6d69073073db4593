use Rattle.lvs_well_formed.proofs.BrokenStates.{breaks_service_keys, breaks_entry_keys, breaks_template_keys, breaks_entry_ids, breaks_dest_ids, breaks_template_ids, breaks_places, breaks_live_dests, breaks_thresholds, breaks_cursors, breaks_entry_servers, breaks_template_servers, breaks_bound_entries, breaks_entry_templates, breaks_entry_states, breaks_pending}
use Rattle.lvs_well_formed.proofs.broken_states.each_line_says_something.Goals as goal

pub returns-clause-service_keys : goal.returns-clause-service_keys
returns-clause-service_keys c = breaks_service_keys

pub returns-clause-entry_keys : goal.returns-clause-entry_keys
returns-clause-entry_keys c = breaks_entry_keys

pub returns-clause-template_keys : goal.returns-clause-template_keys
returns-clause-template_keys c = breaks_template_keys

pub returns-clause-entry_ids : goal.returns-clause-entry_ids
returns-clause-entry_ids c = breaks_entry_ids

pub returns-clause-dest_ids : goal.returns-clause-dest_ids
returns-clause-dest_ids c = breaks_dest_ids

pub returns-clause-template_ids : goal.returns-clause-template_ids
returns-clause-template_ids c = breaks_template_ids

pub returns-clause-places : goal.returns-clause-places
returns-clause-places c = breaks_places

pub returns-clause-live_dests : goal.returns-clause-live_dests
returns-clause-live_dests c = breaks_live_dests

pub returns-clause-thresholds : goal.returns-clause-thresholds
returns-clause-thresholds c = breaks_thresholds

pub returns-clause-cursors : goal.returns-clause-cursors
returns-clause-cursors c = breaks_cursors

pub returns-clause-entry_servers : goal.returns-clause-entry_servers
returns-clause-entry_servers c = breaks_entry_servers

pub returns-clause-template_servers : goal.returns-clause-template_servers
returns-clause-template_servers c = breaks_template_servers

pub returns-clause-bound_entries : goal.returns-clause-bound_entries
returns-clause-bound_entries c = breaks_bound_entries

pub returns-clause-entry_templates : goal.returns-clause-entry_templates
returns-clause-entry_templates c = breaks_entry_templates

pub returns-clause-entry_states : goal.returns-clause-entry_states
returns-clause-entry_states c = breaks_entry_states

pub returns-clause-pending : goal.returns-clause-pending
returns-clause-pending c = breaks_pending
