-- Example states: one that is well formed, and for each line of the definition one in which that line alone doesn't hold.
use Rattle.std.specs.Prelude.{◌≡◌, ◌==◌, ◌+◌, ℕ, Bool, true, false, [], ◌∷◌, Some, None}
use Rattle.std.specs.List.{AllByRecursion, IsDistinct}
use Rattle.lvs_types.specs.declared.service.Proto.TheVariants.{Tcp}
use Rattle.lvs_types.specs.declared.service.Method.TheVariants.{Direct}
use Rattle.lvs_types.specs.declared.dest.Dest.{Dest}
use Rattle.lvs_types.specs.declared.entry.Entry.{Entry}
use Rattle.lvs_types.specs.declared.entry.TcpState.TheVariants.{Established}
use Rattle.lvs_types.specs.declared.template.Template.{Template}
use Rattle.lvs_model.specs.ExampleItems.{web, service_with, direct_server, server_addr, virtual_addr, tunnel_source, add_example_service, add_web_server, syn, left_by}
use Rattle.lvs_model.specs.State.{State, initial}
use Rattle.lvs_model.specs.Same.{key_eq, service_key_eq, template_key_eq}
use Rattle.lvs_model.specs.SyncRules.{of_entry}
use Rattle.lvs_model.specs.WellFormed.{AreDrawn, HasService, HasCursor, HasGoodThresholds, HasServer, TemplateHasServer, GoesToServer, HoldsOlder, HasStateOfProto, place_eq, places, service_keys, entry_keys, template_keys, entry_ids, dest_ids, template_ids}

-- the line holds, or it is the broken one and doesn't
abbrev pub unless : Bool → Type 0 → Type 0
unless true Line = Line → ⊥
unless false Line = Line

-- of the lines of the well formed state, numbered from 1, the broken one is false and all others hold; of number 0 none is broken
pub record HasBroken (broken : ℕ) (s : State) : Type 0 where
  pub service_keys : unless (broken == 1) (IsDistinct service_key_eq (service_keys s.services))
  pub entry_keys : unless (broken == 2) (IsDistinct key_eq (entry_keys s.entries))
  pub template_keys : unless (broken == 3) (IsDistinct template_key_eq (template_keys s.templates))
  pub entry_ids : unless (broken == 4) (AreDrawn s.next_entry (entry_ids s.entries))
  pub dest_ids : unless (broken == 5) (AreDrawn s.next_dest (dest_ids s.dests))
  pub template_ids : unless (broken == 6) (AreDrawn s.next_template (template_ids s.templates))
  pub places : unless (broken == 7) (IsDistinct place_eq (places s.dests))
  pub live_dests : unless (broken == 8) (AllByRecursion (HasService s.services) s.dests)
  pub thresholds : unless (broken == 9) (AllByRecursion HasGoodThresholds s.dests)
  pub cursors : unless (broken == 10) (AllByRecursion (HasCursor s.dests) s.services)
  pub entry_servers : unless (broken == 11) (AllByRecursion (HasServer s.dests) s.entries)
  pub template_servers : unless (broken == 12) (AllByRecursion (TemplateHasServer s.dests) s.templates)
  pub bound_entries : unless (broken == 13) (AllByRecursion (GoesToServer s.dests) s.entries)
  pub entry_templates : unless (broken == 14) (AllByRecursion (HoldsOlder s.next_template) s.entries)
  pub entry_states : unless (broken == 15) (AllByRecursion HasStateOfProto s.entries)
  pub pending : unless (broken == 16) (s.daemons.master ≡ None → s.pending ≡ [])

-- PARTS

-- an unbound connection of a client's port 40000 and more, which goes to 192.168.0.1
abbrev pub entry_from : ℕ → ℕ → Entry
entry_from id port = record {
  id = id;
  key = record { proto = Tcp; caddr = record { number = 0xAC100009 }; cport = port; vaddr = virtual_addr; vport = 80 };
  server = None;
  method = Direct;
  daddr = server_addr 1;
  dport = 80;
  state = Some Established;
  timeout = 900;
  deadline = 900;
  packets = 1;
  template = None;
  mark = 0;
}

-- a removed server 192.168.0.n of the thresholds 0 and 0
abbrev pub removed_server : ℕ → ℕ → Dest
removed_server id n = record { id = record { 0 = id }; service = web; spec = direct_server n 80 1 0; overloaded = false; live = false }

-- an unbound template of the client 172.16.0.n
abbrev pub template_from : ℕ → ℕ → Template
template_from id n = record {
  id = record { 0 = id };
  key = record { code = 6; client = record { number = 0xAC100000 + n }; vaddr = virtual_addr; vport = 80 };
  server = None;
  method = Direct;
  daddr = server_addr 1;
  dport = 80;
  timeout = 300;
  deadline = 300;
}

abbrev pub empty_state : State
empty_state = initial tunnel_source 1

-- three SYNs went to a service of two servers
abbrev pub after_three_syns : State
after_three_syns = left_by (add_example_service web None ∷ add_web_server 1 ∷ add_web_server 2 ∷ syn 40000 ∷ syn 40001 ∷ syn 40002 ∷ [])

-- STATES

-- two services of one key
abbrev pub two_services_of_a_key : State
two_services_of_a_key = record empty_state { services = service_with web None ∷ service_with web (Some 300) ∷ [] }

-- two connections of one key
abbrev pub two_entries_of_a_key : State
two_entries_of_a_key = record empty_state { entries = entry_from 1 40000 ∷ entry_from 2 40000 ∷ []; next_entry = 3 }

-- two templates of one key
abbrev pub two_templates_of_a_key : State
two_templates_of_a_key = record empty_state { templates = template_from 1 9 ∷ template_from 2 9 ∷ []; next_template = 3 }

-- a connection with the id that is to be drawn next
abbrev pub an_entry_of_the_next_id : State
an_entry_of_the_next_id = record empty_state { entries = entry_from 1 40000 ∷ [] }

-- two servers of one id
abbrev pub two_servers_of_an_id : State
two_servers_of_an_id = record empty_state { dests = removed_server 1 1 ∷ removed_server 1 2 ∷ []; next_dest = 2 }

-- a template of id 0
abbrev pub a_template_of_id_0 : State
a_template_of_id_0 = record empty_state { templates = template_from 0 9 ∷ [] }

-- two removed servers at one place
abbrev pub two_servers_at_a_place : State
two_servers_at_a_place = record empty_state { dests = removed_server 1 1 ∷ removed_server 2 1 ∷ []; next_dest = 3 }

-- a live server whose service is gone
abbrev pub a_server_without_a_service : State
a_server_without_a_service = record empty_state { dests = record (removed_server 1 1) { live = true } ∷ []; next_dest = 2 }

-- a server with a lower threshold above the upper one
abbrev pub a_lower_threshold_above : State
a_lower_threshold_above = record empty_state { dests = record (removed_server 1 1) { spec = record (direct_server 1 80 1 1) { lower = 2 } } ∷ []; next_dest = 2 }

-- a service whose cursor names a server that is gone
abbrev pub a_cursor_at_no_server : State
a_cursor_at_no_server = record empty_state { services = record (service_with web None) { cursor = record { last = Some (record { 0 = 1 }); cw = 0 } } ∷ [] }

-- a connection that names a server that is gone
abbrev pub an_entry_of_no_server : State
an_entry_of_no_server = record empty_state { entries = record (entry_from 1 40000) { server = Some (record { 0 = 1 }) } ∷ []; next_entry = 2 }

-- a template that names a server that is gone
abbrev pub a_template_of_no_server : State
a_template_of_no_server = record empty_state { templates = record (template_from 1 9) { server = Some (record { 0 = 1 }) } ∷ []; next_template = 2 }

-- a bound connection that goes to another address than its server has
abbrev pub an_entry_that_goes_elsewhere : State
an_entry_that_goes_elsewhere = record empty_state { dests = removed_server 1 2 ∷ []; next_dest = 2; entries = record (entry_from 1 40000) { server = Some (record { 0 = 1 }) } ∷ []; next_entry = 2 }

-- a connection made by the template that is to be drawn next
abbrev pub an_entry_of_the_next_template : State
an_entry_of_the_next_template = record empty_state { entries = record (entry_from 1 40000) { template = Some (record { 0 = 1 }) } ∷ []; next_entry = 2 }

-- a TCP connection without a state
abbrev pub a_tcp_entry_without_a_state : State
a_tcp_entry_without_a_state = record empty_state { entries = record (entry_from 1 40000) { state = None } ∷ []; next_entry = 2 }

-- a sync record that waits where no master daemon runs
abbrev pub a_record_that_waits_for_no_master : State
a_record_that_waits_for_no_master = record empty_state { pending = of_entry (entry_from 1 40000) ∷ [] }
