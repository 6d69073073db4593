-- Edits of the tables, the timeouts and the daemons (ipvsadm(8)): the first refusal in the order of each command, which leaves the state as it was, or what the edit makes of it.
use Rattle.std.specs.Prelude.{ℕ, not, ◌+◌, Bool, true, false, ◌&&◌, ◌==◌, List, [], ◌∷◌, ◌++◌, Option, Some, None, if◌then◌else◌}
use Rattle.std.specs.List.{find, list_any, filter_map}
use Rattle.lvs_types.specs.declared.addr.Addr.{Addr}
use Rattle.lvs_types.specs.declared.addr.DestId.{DestId}
use Rattle.lvs_types.specs.declared.service.ServiceKey.{ServiceKey}
use Rattle.lvs_types.specs.declared.service.Service.{Service}
use Rattle.lvs_types.specs.declared.service.Cursor.{Cursor}
use Rattle.lvs_types.specs.declared.dest.DestSpec.{DestSpec}
use Rattle.lvs_types.specs.declared.dest.Dest.{Dest}
use Rattle.lvs_types.specs.declared.entry.Entry.{Entry}
use Rattle.lvs_types.specs.declared.template.Template.{Template}
use Rattle.lvs_types.specs.declared.settings.Settings.{Settings}
use Rattle.lvs_types.specs.declared.settings.Setting.{Setting}
use Rattle.lvs_types.specs.declared.command.Command.{Command}
use Rattle.lvs_types.specs.declared.command.Command.TheVariants as command
use Rattle.lvs_types.specs.declared.reply.Reply.{Reply}
use Rattle.lvs_types.specs.declared.reply.Reply.TheVariants as reply
use Rattle.lvs_types.specs.declared.reply.EditRefused.TheVariants as refused
use Rattle.lvs_types.specs.Settings.{with_setting}
use Rattle.lvs_types.specs.Thresholds.{has_bad_thresholds}
use Rattle.lvs_model.specs.State.{State}
use Rattle.lvs_model.specs.Same.{service_key_eq, dest_id_eq, dest_eq}
use Rattle.lvs_model.specs.Lists.{update_first, without}
use Rattle.lvs_model.specs.Overload.{overload_given}
use Rattle.lvs_model.specs.Counts.{total, refs}
use Rattle.lvs_model.specs.Lookups.{has_service_key, is_server_of, is_server_at, stands_at, has_dest_id, servers_of}

-- a scheduler begins anew
abbrev pub fresh_cursor : Cursor
fresh_cursor = record { last = None; cw = 0 }

abbrev pub with_fresh_cursor : Service → Service
with_fresh_cursor service = record service { cursor = fresh_cursor }

abbrev pub is_service : State → ServiceKey → Bool
is_service s key = list_any (has_service_key key) s.services

abbrev pub add_service_by : State → Service → Bool → Reply × State
add_service_by s service true = (reply.Refused refused.Exists, s)
add_service_by s service false = (reply.Done, record s { services = s.services ++ with_fresh_cursor service ∷ [] })

-- -A
abbrev pub add_service : State → Service → Reply × State
add_service s service = add_service_by s service (is_service s service.key)

abbrev pub edit_service_by : State → Service → Bool → Reply × State
edit_service_by s service false = (reply.Refused refused.NoService, s)
edit_service_by s service true = (reply.Done, record s { services = update_first (has_service_key service.key) (λ _. with_fresh_cursor service) s.services })

-- -E
abbrev pub edit_service : State → Service → Reply × State
edit_service s service = edit_service_by s service (is_service s service.key)

-- a server that leaves its service: it is released where nothing names it, and else goes to the trash
abbrev pub trashed : Dest → ℕ → Option Dest
trashed d references = if references == 0 then None else Some (record d { live = false })

abbrev pub leaving : (Dest → Bool) → List Entry → List Template → Dest → Option Dest
leaving p entries templates d = if p d then trashed d (refs d.id entries templates) else Some d

-- the servers that pass leave their services
abbrev pub remove_dests : (Dest → Bool) → List Entry → List Template → List Dest → List Dest
remove_dests p entries templates dests = filter_map (leaving p entries templates) dests

abbrev pub remove_service_by : State → ServiceKey → Bool → Reply × State
remove_service_by s key false = (reply.Refused refused.NoService, s)
remove_service_by s key true = (
  reply.Done,
  record s {
    services = without (has_service_key key) s.services;
    dests = remove_dests (is_server_of key) s.entries s.templates s.dests;
  },
)

-- -D: its servers leave, and the service
abbrev pub remove_service : State → ServiceKey → Reply × State
remove_service s key = remove_service_by s key (is_service s key)

-- -C: all services, as by -D
abbrev pub clear : State → Reply × State
clear s = (reply.Done, record s { services = []; dests = remove_dests (λ (d : Dest). d.live) s.entries s.templates s.dests })

-- a server in the trash of this service, address and port
abbrev pub is_revivable : ServiceKey → DestSpec → Dest → Bool
is_revivable key spec d = not d.live && service_key_eq d.service key && stands_at spec.addr spec.port d

abbrev pub new_dest : DestId → ServiceKey → DestSpec → Dest
new_dest id key spec = record { id = id; service = key; spec = spec; overloaded = overload_given spec 0; live = true }

-- with its id and counts, and the specification given
abbrev pub revived : List Entry → DestSpec → Dest → Dest
revived entries spec d = record d { spec = spec; overloaded = overload_given spec (total d.id entries); live = true }

-- a server is taken back from the trash, or a new one is made; it stands last
abbrev pub place_server : State → ServiceKey → DestSpec → Option Dest → State
place_server s key spec None =
    record s { dests = s.dests ++ new_dest (record { 0 = s.next_dest }) key spec ∷ []; next_dest = s.next_dest + 1 }
place_server s key spec (Some d) = record s { dests = without (has_dest_id d.id) s.dests ++ revived s.entries spec d ∷ [] }

-- by whether the service is there, whether a live server stands there, and whether the thresholds are crossed
abbrev pub add_server_by : State → ServiceKey → DestSpec → Bool → Bool → Bool → Reply × State
add_server_by s key spec false known crossed = (reply.Refused refused.NoService, s)
add_server_by s key spec true true crossed = (reply.Refused refused.Exists, s)
add_server_by s key spec true false true = (reply.Refused refused.Thresholds, s)
add_server_by s key spec true false false = (reply.Done, place_server s key spec (find (is_revivable key spec) s.dests))

abbrev pub is_server : State → ServiceKey → Addr → ℕ → Bool
is_server s key addr port = list_any (is_server_at key addr port) s.dests

-- -a
abbrev pub add_server : State → ServiceKey → DestSpec → Reply × State
add_server s key spec = add_server_by s key spec (is_service s key) (is_server s key spec.addr spec.port) (has_bad_thresholds spec)

-- its place, id and counts stay
abbrev pub respecified : List Entry → DestSpec → Dest → Dest
respecified entries spec d = record d { spec = spec; overloaded = overload_given spec (total d.id entries) }

abbrev pub edit_server_by : State → ServiceKey → DestSpec → Bool → Bool → Bool → Reply × State
edit_server_by s key spec false known crossed = (reply.Refused refused.NoService, s)
edit_server_by s key spec true false crossed = (reply.Refused refused.NoDest, s)
edit_server_by s key spec true true true = (reply.Refused refused.Thresholds, s)
edit_server_by s key spec true true false =
    (reply.Done, record s { dests = update_first (is_server_at key spec.addr spec.port) (respecified s.entries spec) s.dests })

-- -e
abbrev pub edit_server : State → ServiceKey → DestSpec → Reply × State
edit_server s key spec = edit_server_by s key spec (is_service s key) (is_server s key spec.addr spec.port) (has_bad_thresholds spec)

-- the server that stands before the one of this id, the first one's being this one
abbrev pub server_before : DestId → Option DestId → List Dest → Option DestId
server_before id previous [] = None
server_before id previous (d ∷ ds) = if dest_id_eq d.id id then previous else server_before id (Some d.id) ds

-- a cursor that names the server goes back to the one before it
abbrev pub step_back : DestId → List Dest → Service → Service
step_back id servers service =
    if dest_eq service.cursor.last id then record service { cursor = record { last = server_before id None servers; cw = service.cursor.cw } }
    else service

-- the server leaves its service
abbrev pub remove_dest : State → ServiceKey → Dest → State
remove_dest s key d = record s {
  services = update_first (has_service_key key) (step_back d.id (servers_of key s.dests)) s.services;
  dests = remove_dests (has_dest_id d.id) s.entries s.templates s.dests;
}

abbrev pub remove_server_at : State → ServiceKey → Option Dest → Reply × State
remove_server_at s key None = (reply.Refused refused.NoDest, s)
remove_server_at s key (Some d) = (reply.Done, remove_dest s key d)

abbrev pub remove_server_by : State → ServiceKey → Addr → ℕ → Bool → Reply × State
remove_server_by s key addr port false = (reply.Refused refused.NoService, s)
remove_server_by s key addr port true = remove_server_at s key (find (is_server_at key addr port) s.dests)

-- -d
abbrev pub remove_server : State → ServiceKey → Addr → ℕ → Reply × State
remove_server s key addr port = remove_server_by s key addr port (is_service s key)

-- a number that isn't 0, and else the old one
abbrev pub or_kept : ℕ → ℕ → ℕ
or_kept new old = if new == 0 then old else new

-- --set: the timeouts change where the number isn't 0
abbrev pub with_timeouts : ℕ → ℕ → ℕ → Settings → Settings
with_timeouts established fin_wait udp settings = record settings {
  established = or_kept established settings.established;
  fin_wait = or_kept fin_wait settings.fin_wait;
  udp = or_kept udp settings.udp;
}

abbrev pub start_master : State → ℕ → Option ℕ → Reply × State
start_master s id (Some runs) = (reply.Refused refused.Running, s)
start_master s id None = (reply.Done, record s { daemons = record s.daemons { master = Some id } })

abbrev pub start_backup : State → ℕ → Option ℕ → Reply × State
start_backup s id (Some runs) = (reply.Refused refused.Running, s)
start_backup s id None = (reply.Done, record s { daemons = record s.daemons { backup = Some id } })

-- the pending records are dropped
abbrev pub stop_master : State → Option ℕ → Reply × State
stop_master s None = (reply.Refused refused.NotRunning, s)
stop_master s (Some runs) = (reply.Done, record s { daemons = record s.daemons { master = None }; pending = [] })

abbrev pub stop_backup : State → Option ℕ → Reply × State
stop_backup s None = (reply.Refused refused.NotRunning, s)
stop_backup s (Some runs) = (reply.Done, record s { daemons = record s.daemons { backup = None } })

abbrev pub edit : State → Command → Reply × State
edit s (command.AddService service) = add_service s service
edit s (command.EditService service) = edit_service s service
edit s (command.RemoveService key) = remove_service s key
edit s command.Clear = clear s
edit s (command.AddServer key spec) = add_server s key spec
edit s (command.EditServer key spec) = edit_server s key spec
edit s (command.RemoveServer key addr port) = remove_server s key addr port
edit s (command.Timeouts established fin_wait udp) = (reply.Done, record s { settings = with_timeouts established fin_wait udp s.settings })
edit s (command.StartMaster id) = start_master s id s.daemons.master
edit s (command.StartBackup id) = start_backup s id s.daemons.backup
edit s command.StopMaster = stop_master s s.daemons.master
edit s command.StopBackup = stop_backup s s.daemons.backup

-- the named sysctl changes alone (the Linux ipvs-sysctl document)
abbrev pub set : State → Setting → Reply × State
set s setting = (reply.Done, record s { settings = with_setting s.settings setting })
