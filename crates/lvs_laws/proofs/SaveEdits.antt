-- Edits, and each step, leave tables that words can say.
use Rattle.std.proofs.Common.{◌≡◌, ℕ, Bool, true, false, cond, not, ◌&&◌, List, [], ◌∷◌, Option, Some, None, refl, sym, subst, map, ltb-false}
use Rattle.std.proofs.lemmas.Bool.{and_parts}
use Rattle.std.specs.List.{AllByRecursion, find, filter}
use Rattle.lvs_types.specs.declared.addr.Addr.{Addr}
use Rattle.lvs_types.specs.declared.service.ServiceKey.{ServiceKey}
use Rattle.lvs_types.specs.declared.service.Service.{Service}
use Rattle.lvs_types.specs.declared.dest.DestSpec.{DestSpec}
use Rattle.lvs_types.specs.declared.dest.Dest.{Dest}
use Rattle.lvs_types.specs.declared.entry.Entry.{Entry}
use Rattle.lvs_types.specs.declared.template.Template.{Template}
use Rattle.lvs_types.specs.declared.command.Command.{Command}
use Rattle.lvs_types.specs.declared.command.Command.TheVariants as command
use Rattle.lvs_types.specs.declared.item.Item.{Item}
use Rattle.lvs_types.specs.declared.item.Item.TheVariants as item
use Rattle.lvs_types.specs.Thresholds.{has_bad_thresholds}
use Rattle.lvs_model.specs.State.{State, initial}
use Rattle.lvs_model.specs.Same.{service_key_eq, dest_eq}
use Rattle.lvs_model.specs.Lists.{without}
use Rattle.lvs_model.specs.Reading.{read}
use Rattle.lvs_model.specs.Lookups.{has_dest_id, has_service_key, is_server_of, is_server_at, stands_at, servers_of}
use Rattle.lvs_model.specs.Edits.{edit, with_fresh_cursor, fresh_cursor, is_service, is_server, add_service_by, edit_service_by, remove_service_by, remove_dests, leaving, clear, add_server_by, place_server, is_revivable, new_dest, revived, edit_server_by, respecified, server_before, step_back, remove_server_by, remove_server_at, start_master, start_backup, stop_master, stop_backup}
use Rattle.lvs_model.specs.Clock.{is_swept, after_ends, is_named_in, is_released, reaped_templates, sweep, reap}
use Rattle.lvs_model.specs.Step.{step, run}
use Rattle.lvs_well_formed.proofs.Lists.{all_weaker, all_map, all_push, all_filter, all_filter_map, all_update, find_passes}
use Rattle.lvs_well_formed.proofs.Keys.{service_key_true}
use Rattle.lvs_well_formed.proofs.Removals.{left_keeps}
use Rattle.lvs_listing.specs.Savable.{IsSayableService, IsSayableServer}
use Rattle.lvs_laws.specs.Saying.{IsSayableSpec, IsSayableCommand, IsSayableItem, IsSayableDest, HasSayableTables}
use Rattle.lvs_laws.proofs.SavePackets.{Keeps, keeps_itself, with_cursor_sayable, incoming_keeps, outgoing_keeps, learn_keeps}

-- SERVICES

add_service_keeps : (s : State) (service : Service) (b : Bool) → IsSayableService service → Keeps s (add_service_by s service b).1
add_service_keeps s service true is are = are
add_service_keeps s service false is are = record {
  services = all_push IsSayableService s.services (with_fresh_cursor service) are.services (with_cursor_sayable service fresh_cursor is);
  servers = are.servers;
}

edit_service_keeps : (s : State) (service : Service) (b : Bool) → IsSayableService service → Keeps s (edit_service_by s service b).1
edit_service_keeps s service false is are = are
edit_service_keeps s service true is are = record {
  services = all_update IsSayableService (has_service_key service.key) (λ _. with_fresh_cursor service) s.services (λ old here _. with_cursor_sayable service fresh_cursor is) are.services;
  servers = are.servers;
}

-- the servers that pass leave, or go to the trash as they are
left_sayable : (q : Dest → Bool) (es : List Entry) (ts : List Template) (ds : List Dest) → AllByRecursion IsSayableDest ds → AllByRecursion IsSayableDest (remove_dests q es ts ds)
left_sayable q es ts ds each = all_filter_map IsSayableDest IsSayableDest (leaving q es ts) ds (λ d later becomes is. left_keeps IsSayableDest q es ts d later becomes (λ _. is) (λ _. is)) each

remove_service_keeps : (s : State) (key : ServiceKey) (b : Bool) → Keeps s (remove_service_by s key b).1
remove_service_keeps s key false are = are
remove_service_keeps s key true are = record {
  services = all_filter IsSayableService (λ (x : Service). not (has_service_key key x)) s.services are.services;
  servers = left_sayable (is_server_of key) s.entries s.templates s.dests are.servers;
}

clear_keeps : (s : State) → Keeps s (clear s).1
clear_keeps s are = record { services = tt; servers = left_sayable (λ (d : Dest). d.live) s.entries s.templates s.dests are.servers }

-- SERVERS

-- the thresholds were compared
whole_spec : (key : ServiceKey) (spec : DestSpec) → IsSayableSpec key spec → has_bad_thresholds spec ≡ false → IsSayableServer key spec
whole_spec key spec is good = record {
  addr = is.addr;
  port = is.port;
  port_kept = is.port_kept;
  weight = is.weight;
  upper = is.upper;
  lower = ltb-false spec.upper spec.lower good;
}

-- a server of the service takes a specification that can be said for it
respecified_sayable : (key : ServiceKey) (spec : DestSpec) (d : Dest) → service_key_eq d.service key ≡ true → IsSayableServer key spec → IsSayableServer d.service spec
respecified_sayable key spec d own is = subst (λ k. IsSayableServer k spec) (sym (service_key_true d.service key own)) is

place_keeps : (s : State) (key : ServiceKey) (spec : DestSpec) (o : Option Dest) → find (is_revivable key spec) s.dests ≡ o → IsSayableServer key spec → Keeps s (place_server s key spec o)
place_keeps s key spec None found is are = record { services = are.services; servers = all_push IsSayableDest s.dests (new_dest (record { 0 = s.next_dest }) key spec) are.servers is }
place_keeps s key spec (Some d) found is are =
    let stands = and_parts (not d.live && service_key_eq d.service key) (stands_at spec.addr spec.port d) (find_passes (is_revivable key spec) s.dests d found) in
    let own = (and_parts (not d.live) (service_key_eq d.service key) stands.0).1 in
    record {
      services = are.services;
      servers = all_push IsSayableDest (without (has_dest_id d.id) s.dests) (revived s.entries spec d) (all_filter IsSayableDest (λ (x : Dest). not (has_dest_id d.id x)) s.dests are.servers) (respecified_sayable key spec d own is);
    }

add_server_keeps : (s : State) (key : ServiceKey) (spec : DestSpec) (a b c : Bool) → has_bad_thresholds spec ≡ c → IsSayableSpec key spec → Keeps s (add_server_by s key spec a b c).1
add_server_keeps s key spec false b c good is are = are
add_server_keeps s key spec true true c good is are = are
add_server_keeps s key spec true false true good is are = are
add_server_keeps s key spec true false false good is are = place_keeps s key spec (find (is_revivable key spec) s.dests) refl (whole_spec key spec is good) are

edit_server_keeps : (s : State) (key : ServiceKey) (spec : DestSpec) (a b c : Bool) → has_bad_thresholds spec ≡ c → IsSayableSpec key spec → Keeps s (edit_server_by s key spec a b c).1
edit_server_keeps s key spec false b c good is are = are
edit_server_keeps s key spec true false c good is are = are
edit_server_keeps s key spec true true true good is are = are
edit_server_keeps s key spec true true false good is are = record {
  services = are.services;
  servers = all_update IsSayableDest (is_server_at key spec.addr spec.port) (respecified s.entries spec) s.dests
      (λ d here _. respecified_sayable key spec d (and_parts d.live (service_key_eq d.service key) (and_parts (is_server_of key d) (stands_at spec.addr spec.port d) here).0).1 (whole_spec key spec is good)) are.servers;
}

either_service : (b : Bool) (x y : Service) → IsSayableService x → IsSayableService y → IsSayableService (cond b x y)
either_service true x y first second = first
either_service false x y first second = second

step_back_sayable : (s : State) (key : ServiceKey) (d : Dest) (service : Service) → IsSayableService service → IsSayableService (step_back d.id (servers_of key s.dests) service)
step_back_sayable s key d service is =
    let before = server_before d.id None (servers_of key s.dests) in
    either_service (dest_eq service.cursor.last d.id) (record service { cursor = record { last = before; cw = service.cursor.cw } }) service
    (with_cursor_sayable service (record { last = before; cw = service.cursor.cw }) is) is

remove_at_keeps : (s : State) (key : ServiceKey) (o : Option Dest) → Keeps s (remove_server_at s key o).1
remove_at_keeps s key None are = are
remove_at_keeps s key (Some d) are = record {
  services = all_update IsSayableService (has_service_key key) (step_back d.id (servers_of key s.dests)) s.services (λ service here is. step_back_sayable s key d service is) are.services;
  servers = left_sayable (has_dest_id d.id) s.entries s.templates s.dests are.servers;
}

remove_server_keeps : (s : State) (key : ServiceKey) (addr : Addr) (port : ℕ) (b : Bool) → Keeps s (remove_server_by s key addr port b).1
remove_server_keeps s key addr port false are = are
remove_server_keeps s key addr port true are = remove_at_keeps s key (find (is_server_at key addr port) s.dests) are

-- DAEMONS

start_master_keeps : (s : State) (id : ℕ) (o : Option ℕ) → Keeps s (start_master s id o).1
start_master_keeps s id (Some runs) are = are
start_master_keeps s id None are = are

start_backup_keeps : (s : State) (id : ℕ) (o : Option ℕ) → Keeps s (start_backup s id o).1
start_backup_keeps s id (Some runs) are = are
start_backup_keeps s id None are = are

stop_master_keeps : (s : State) (o : Option ℕ) → Keeps s (stop_master s o).1
stop_master_keeps s None are = are
stop_master_keeps s (Some runs) are = are

stop_backup_keeps : (s : State) (o : Option ℕ) → Keeps s (stop_backup s o).1
stop_backup_keeps s None are = are
stop_backup_keeps s (Some runs) are = are

-- AN EDIT

edit_keeps : (s : State) (c : Command) → IsSayableCommand c → Keeps s (edit s c).1
edit_keeps s (command.AddService service) is = add_service_keeps s service (is_service s service.key) is
edit_keeps s (command.EditService service) is = edit_service_keeps s service (is_service s service.key) is
edit_keeps s (command.RemoveService key) is = remove_service_keeps s key (is_service s key)
edit_keeps s command.Clear is = clear_keeps s
edit_keeps s (command.AddServer key spec) is = add_server_keeps s key spec (is_service s key) (is_server s key spec.addr spec.port) (has_bad_thresholds spec) refl is
edit_keeps s (command.EditServer key spec) is = edit_server_keeps s key spec (is_service s key) (is_server s key spec.addr spec.port) (has_bad_thresholds spec) refl is
edit_keeps s (command.RemoveServer key addr port) is = remove_server_keeps s key addr port (is_service s key)
edit_keeps s (command.Timeouts established fin_wait udp) is = keeps_itself s
edit_keeps s (command.StartMaster id) is = start_master_keeps s id s.daemons.master
edit_keeps s (command.StartBackup id) is = start_backup_keeps s id s.daemons.backup
edit_keeps s command.StopMaster is = stop_master_keeps s s.daemons.master
edit_keeps s command.StopBackup is = stop_backup_keeps s s.daemons.backup

-- A STEP, AND A RUN

ended_sayable : (b : Bool) (d : Dest) (overloaded : Bool) → IsSayableDest d → IsSayableDest (cond b (record d { overloaded = overloaded }) d)
ended_sayable true d overloaded is = is
ended_sayable false d overloaded is = is

ends_sayable : (ended es : List Entry) (ds : List Dest) → AllByRecursion IsSayableDest ds → AllByRecursion IsSayableDest (map (after_ends ended es) ds)
ends_sayable ended es ds each = all_map IsSayableDest (after_ends ended es) ds (all_weaker IsSayableDest (λ (d : Dest). IsSayableDest (after_ends ended es d)) ds (λ d is. ended_sayable (is_named_in ended d) d _ is) each)

sweep_keeps : (s : State) (bucket : ℕ) → Keeps s (sweep s bucket).1
sweep_keeps s bucket are = record { services = are.services; servers = ends_sayable (filter (is_swept s bucket) s.entries) (without (is_swept s bucket) s.entries) s.dests are.servers }

reap_keeps : (s : State) → Keeps s (reap s).1
reap_keeps s are = record { services = are.services; servers = all_filter IsSayableDest (λ (d : Dest). not (is_released s.entries (reaped_templates s) d)) s.dests are.servers }

pub step_keeps : (s : State) (next : Item) → IsSayableItem next → Keeps s (step s next).1
step_keeps s (item.Incoming mark bytes) is = incoming_keeps s mark bytes (read bytes)
step_keeps s (item.Outgoing bytes) is = outgoing_keeps s bytes (read bytes)
step_keeps s (item.Edit edit_command) is = edit_keeps s edit_command is
step_keeps s (item.Set setting) is = keeps_itself s
step_keeps s (item.Learn sync_id record_item) is = learn_keeps s sync_id record_item
step_keeps s (item.BadSync why) is = keeps_itself s
step_keeps s (item.Tick moment) is = keeps_itself s
step_keeps s (item.Sweep bucket) is = sweep_keeps s bucket
step_keeps s item.Reap is = reap_keeps s
step_keeps s item.SendSync is = keeps_itself s

pub run_keeps : (s : State) (items : List Item) → AllByRecursion IsSayableItem items → Keeps s (run s items).1
run_keeps s [] each are = are
run_keeps s (next ∷ items) each are = run_keeps (step s next).1 items each.1 (step_keeps s next each.0 are)

pub initial_sayable : (local : Addr) (buckets : ℕ) → HasSayableTables (initial local buckets)
initial_sayable local buckets = record { services = tt; servers = tt }
