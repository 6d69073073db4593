-- What an edit makes of a server.
use Rattle.std.proofs.Common.{◌≡◌, ◌==◌, ℕ, Bool, true, false, not, ◌&&◌, Option, Some, None, refl, sym, subst}
use Rattle.std.proofs.lemmas.Bool.{and_parts, eqb-true}
use Rattle.std.specs.List.{find}
use Rattle.lvs_types.specs.declared.addr.Addr.{Addr}
use Rattle.lvs_types.specs.declared.service.ServiceKey.{ServiceKey}
use Rattle.lvs_types.specs.declared.service.Service.{Service}
use Rattle.lvs_types.specs.declared.dest.DestSpec.{DestSpec}
use Rattle.lvs_types.specs.declared.dest.Dest.{Dest}
use Rattle.lvs_types.specs.declared.command.Command.{Command}
use Rattle.lvs_types.specs.declared.command.Command.TheVariants as command
use Rattle.lvs_types.specs.declared.item.Item.TheVariants as item
use Rattle.lvs_types.specs.Thresholds.{has_bad_thresholds}
use Rattle.lvs_model.specs.State.{State}
use Rattle.lvs_model.specs.Same.{addr_eq, service_key_eq}
use Rattle.lvs_model.specs.Lists.{update_first}
use Rattle.lvs_model.specs.Lookups.{dest_at, has_dest_id, is_server_of, is_server_at, stands_at}
use Rattle.lvs_model.specs.Edits.{edit, is_service, is_server, add_service_by, edit_service_by, remove_service_by, clear, add_server_by, place_server, is_revivable, new_dest, revived, edit_server_by, respecified, remove_server_by, remove_server_at, start_master, start_backup, stop_master, stop_backup}
use Rattle.lvs_model.specs.WellFormed.{IsWellFormed}
use Rattle.lvs_well_formed.proofs.Lists.{all_find, find_passes}
use Rattle.lvs_well_formed.proofs.Keys.{addr_true, service_key_true, dest_id_true}
use Rattle.lvs_well_formed.proofs.Alike.{update_alike}
use Rattle.lvs_well_formed.proofs.Found.{dests_by_id}
use Rattle.lvs_laws.specs.Releasing.{IsServerOf, StaysOrIsReleased}
use Rattle.lvs_laws.proofs.ReleaseKept.{kept_itself, kept_alike, kept_pushed, kept_moved, respecified_place, stays_there}
use Rattle.lvs_laws.proofs.ReleasePackets.{Keeps}
use Rattle.lvs_laws.proofs.ReleaseLeft.{left_becomes}

-- EDITS THAT KEEP EVERY SERVER

add_service_keeps : (s : State) (service : Service) (b : Bool) → Keeps s (add_service_by s service b).1
add_service_keeps s service true = kept_itself s.dests
add_service_keeps s service false = kept_itself s.dests

edit_service_keeps : (s : State) (service : Service) (b : Bool) → Keeps s (edit_service_by s service b).1
edit_service_keeps s service true = kept_itself s.dests
edit_service_keeps s service false = kept_itself s.dests

place_keeps : (s : State) (key : ServiceKey) (spec : DestSpec) (o : Option Dest) → find (is_revivable key spec) s.dests ≡ o → IsWellFormed s → Keeps s (place_server s key spec o)
place_keeps s key spec None is w = kept_pushed s.dests (new_dest (record { 0 = s.next_dest }) key spec)
place_keeps s key spec (Some d) is w =
    let test = find_passes (is_revivable key spec) s.dests d is in
    let stands = and_parts (not d.live && service_key_eq d.service key) (stands_at spec.addr spec.port d) test in
    kept_moved s.dests (revived s.entries spec d) d (all_find (λ (x : Dest). dest_at x.id s.dests ≡ Some x) (is_revivable key spec) s.dests d (dests_by_id s w) is) (respecified_place spec d stands.1)

add_server_keeps : (s : State) (key : ServiceKey) (spec : DestSpec) (a b c : Bool) → IsWellFormed s → Keeps s (add_server_by s key spec a b c).1
add_server_keeps s key spec false b c w = kept_itself s.dests
add_server_keeps s key spec true true c w = kept_itself s.dests
add_server_keeps s key spec true false true w = kept_itself s.dests
add_server_keeps s key spec true false false w = place_keeps s key spec (find (is_revivable key spec) s.dests) refl w

edit_server_keeps : (s : State) (key : ServiceKey) (spec : DestSpec) (a b c : Bool) → has_bad_thresholds spec ≡ c → Keeps s (edit_server_by s key spec a b c).1
edit_server_keeps s key spec false b c is = kept_itself s.dests
edit_server_keeps s key spec true false c is = kept_itself s.dests
edit_server_keeps s key spec true true true is = kept_itself s.dests
edit_server_keeps s key spec true true false is =
    kept_alike s.dests (update_first (is_server_at key spec.addr spec.port) (respecified s.entries spec) s.dests)
    (update_alike (is_server_at key spec.addr spec.port) (respecified s.entries spec) s.dests
    (λ d here. record {
      id = refl;
      place = respecified_place spec d (and_parts (is_server_of key d) (stands_at spec.addr spec.port d) here).1;
      live = refl;
      thresholds = λ _. is;
    }))

start_master_keeps : (s : State) (id : ℕ) (o : Option ℕ) → Keeps s (start_master s id o).1
start_master_keeps s id (Some runs) = kept_itself s.dests
start_master_keeps s id None = kept_itself s.dests

start_backup_keeps : (s : State) (id : ℕ) (o : Option ℕ) → Keeps s (start_backup s id o).1
start_backup_keeps s id (Some runs) = kept_itself s.dests
start_backup_keeps s id None = kept_itself s.dests

stop_master_keeps : (s : State) (o : Option ℕ) → Keeps s (stop_master s o).1
stop_master_keeps s None = kept_itself s.dests
stop_master_keeps s (Some runs) = kept_itself s.dests

stop_backup_keeps : (s : State) (o : Option ℕ) → Keeps s (stop_backup s o).1
stop_backup_keeps s None = kept_itself s.dests
stop_backup_keeps s (Some runs) = kept_itself s.dests

-- EDITS THAT TAKE SERVERS AWAY

remove_service_becomes : (s : State) (key : ServiceKey) (d : Dest) (b : Bool) → IsWellFormed s → IsServerOf s d → StaysOrIsReleased s (item.Edit (command.RemoveService key)) d (dest_at d.id (remove_service_by s key b).1.dests)
remove_service_becomes s key d false w found = stays_there s (item.Edit (command.RemoveService key)) d s.dests found (kept_itself s.dests)
remove_service_becomes s key d true w found =
    left_becomes s (item.Edit (command.RemoveService key)) (is_server_of key) d w found
    (λ is unnamed. let parts = and_parts d.live (service_key_eq d.service key) is in record { live = parts.0; taken = sym (service_key_true d.service key parts.1); unnamed = unnamed })

clear_becomes : (s : State) (d : Dest) → IsWellFormed s → IsServerOf s d → StaysOrIsReleased s (item.Edit command.Clear) d (dest_at d.id (clear s).1.dests)
clear_becomes s d w found =
    left_becomes s (item.Edit command.Clear) (λ (x : Dest). x.live) d w found (λ is unnamed. record { live = is; taken = tt; unnamed = unnamed })

remove_at_becomes : (s : State) (key : ServiceKey) (addr : Addr) (port : ℕ) (d : Dest) (o : Option Dest) → find (is_server_at key addr port) s.dests ≡ o → IsWellFormed s → IsServerOf s d
    → StaysOrIsReleased s (item.Edit (command.RemoveServer key addr port)) d (dest_at d.id (remove_server_at s key o).1.dests)
remove_at_becomes s key addr port d None at w found = stays_there s (item.Edit (command.RemoveServer key addr port)) d s.dests found (kept_itself s.dests)
remove_at_becomes s key addr port d (Some x) at w found =
    left_becomes s (item.Edit (command.RemoveServer key addr port)) (has_dest_id x.id) d w found
    (λ is unnamed.
    let there : dest_at x.id s.dests ≡ Some x = all_find (λ (y : Dest). dest_at y.id s.dests ≡ Some y) (is_server_at key addr port) s.dests x (dests_by_id s w) at in
    let also : dest_at x.id s.dests ≡ Some d = subst (λ i. dest_at i s.dests ≡ Some d) (dest_id_true d.id x.id is) found in
    let same : x ≡ d = cc in
    let passes : is_server_at key addr port d ≡ true = subst (λ y. is_server_at key addr port y ≡ true) same (find_passes (is_server_at key addr port) s.dests x at) in
    let parts = and_parts (is_server_of key d) (stands_at addr port d) passes in
    let lives = and_parts d.live (service_key_eq d.service key) parts.0 in
    let stands = and_parts (addr_eq d.spec.addr addr) (d.spec.port == port) parts.1 in
    record {
      live = lives.0;
      taken = (sym (service_key_true d.service key lives.1), sym (addr_true d.spec.addr addr stands.0), sym (eqb-true d.spec.port port stands.1));
      unnamed = unnamed;
    })

remove_server_becomes : (s : State) (key : ServiceKey) (addr : Addr) (port : ℕ) (d : Dest) (b : Bool) → IsWellFormed s → IsServerOf s d
    → StaysOrIsReleased s (item.Edit (command.RemoveServer key addr port)) d (dest_at d.id (remove_server_by s key addr port b).1.dests)
remove_server_becomes s key addr port d false w found = stays_there s (item.Edit (command.RemoveServer key addr port)) d s.dests found (kept_itself s.dests)
remove_server_becomes s key addr port d true w found = remove_at_becomes s key addr port d (find (is_server_at key addr port) s.dests) refl w found

-- AN EDIT

edit_stays : (s : State) (c : Command) (d : Dest) → IsServerOf s d → Keeps s (edit s c).1 → StaysOrIsReleased s (item.Edit c) d (dest_at d.id (edit s c).1.dests)
edit_stays s c d found keeps = stays_there s (item.Edit c) d (edit s c).1.dests found keeps

pub edit_becomes : (s : State) (c : Command) (d : Dest) → IsWellFormed s → IsServerOf s d → StaysOrIsReleased s (item.Edit c) d (dest_at d.id (edit s c).1.dests)
edit_becomes s (command.AddService service) d w found = edit_stays s (command.AddService service) d found (add_service_keeps s service (is_service s service.key))
edit_becomes s (command.EditService service) d w found = edit_stays s (command.EditService service) d found (edit_service_keeps s service (is_service s service.key))
edit_becomes s (command.RemoveService key) d w found = remove_service_becomes s key d (is_service s key) w found
edit_becomes s command.Clear d w found = clear_becomes s d w found
edit_becomes s (command.AddServer key spec) d w found =
    edit_stays s (command.AddServer key spec) d found (add_server_keeps s key spec (is_service s key) (is_server s key spec.addr spec.port) (has_bad_thresholds spec) w)
edit_becomes s (command.EditServer key spec) d w found =
    edit_stays s (command.EditServer key spec) d found (edit_server_keeps s key spec (is_service s key) (is_server s key spec.addr spec.port) (has_bad_thresholds spec) refl)
edit_becomes s (command.RemoveServer key addr port) d w found = remove_server_becomes s key addr port d (is_service s key) w found
edit_becomes s (command.Timeouts established fin_wait udp) d w found = edit_stays s (command.Timeouts established fin_wait udp) d found (kept_itself s.dests)
edit_becomes s (command.StartMaster id) d w found = edit_stays s (command.StartMaster id) d found (start_master_keeps s id s.daemons.master)
edit_becomes s (command.StartBackup id) d w found = edit_stays s (command.StartBackup id) d found (start_backup_keeps s id s.daemons.backup)
edit_becomes s command.StopMaster d w found = edit_stays s command.StopMaster d found (stop_master_keeps s s.daemons.master)
edit_becomes s command.StopBackup d w found = edit_stays s command.StopBackup d found (stop_backup_keeps s s.daemons.backup)
