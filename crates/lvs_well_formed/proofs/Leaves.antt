-- What leaves the state as it was.
use Rattle.std.proofs.Common.{◌≡◌, ℕ, Bool, true, false, Option, Some, None, refl}
use Rattle.std.specs.List.{find}
use Rattle.lvs_types.specs.declared.addr.Addr.{Addr}
use Rattle.lvs_types.specs.declared.service.Service.{Service}
use Rattle.lvs_types.specs.declared.service.ServiceKey.{ServiceKey}
use Rattle.lvs_types.specs.declared.dest.Dest.{Dest}
use Rattle.lvs_types.specs.declared.dest.DestSpec.{DestSpec}
use Rattle.lvs_types.specs.declared.command.Command.{Command}
use Rattle.lvs_types.specs.declared.command.Command.TheVariants as command
use Rattle.lvs_types.specs.declared.reply.Reply.{Reply}
use Rattle.lvs_types.specs.declared.reply.Reply.TheVariants as reply
use Rattle.lvs_types.specs.declared.reply.EditRefused.{EditRefused}
use Rattle.lvs_types.specs.declared.sync.SyncItem.{SyncItem}
use Rattle.lvs_types.specs.declared.sync.Learnt.{Learnt}
use Rattle.lvs_types.specs.declared.sync.Learnt.TheVariants as learnt
use Rattle.lvs_types.specs.Thresholds.{has_bad_thresholds}
use Rattle.lvs_model.specs.State.{State}
use Rattle.lvs_model.specs.Edits.{edit, add_service_by, edit_service_by, remove_service_by, add_server_by, edit_server_by, remove_server_by, remove_server_at, start_master, start_backup, stop_master, stop_backup, is_service, is_server}
use Rattle.lvs_model.specs.Lookups.{is_server_at}
use Rattle.lvs_model.specs.SyncRules.{accept}
use Rattle.lvs_model.specs.Learning.{learn, learn_by}

-- EDITS

-- an answer that refuses leaves the state
abbrev pub LeavesRefused : State → Reply × State → Type 0
LeavesRefused s answer = (why : EditRefused) → answer.0 ≡ reply.Refused why → answer.1 ≡ s

add_service_leaves : (s : State) (service : Service) (b : Bool) → LeavesRefused s (add_service_by s service b)
add_service_leaves s service true why is = refl
add_service_leaves s service false why is = absurd cc

edit_service_leaves : (s : State) (service : Service) (b : Bool) → LeavesRefused s (edit_service_by s service b)
edit_service_leaves s service false why is = refl
edit_service_leaves s service true why is = absurd cc

remove_service_leaves : (s : State) (key : ServiceKey) (b : Bool) → LeavesRefused s (remove_service_by s key b)
remove_service_leaves s key false why is = refl
remove_service_leaves s key true why is = absurd cc

add_server_leaves : (s : State) (key : ServiceKey) (spec : DestSpec) (a b c : Bool) → LeavesRefused s (add_server_by s key spec a b c)
add_server_leaves s key spec false b c why is = refl
add_server_leaves s key spec true true c why is = refl
add_server_leaves s key spec true false true why is = refl
add_server_leaves s key spec true false false why is = absurd cc

edit_server_leaves : (s : State) (key : ServiceKey) (spec : DestSpec) (a b c : Bool) → LeavesRefused s (edit_server_by s key spec a b c)
edit_server_leaves s key spec false b c why is = refl
edit_server_leaves s key spec true false c why is = refl
edit_server_leaves s key spec true true true why is = refl
edit_server_leaves s key spec true true false why is = absurd cc

remove_at_leaves : (s : State) (key : ServiceKey) (o : Option Dest) → LeavesRefused s (remove_server_at s key o)
remove_at_leaves s key None why is = refl
remove_at_leaves s key (Some d) why is = absurd cc

remove_server_leaves : (s : State) (key : ServiceKey) (addr : Addr) (port : ℕ) (b : Bool) → LeavesRefused s (remove_server_by s key addr port b)
remove_server_leaves s key addr port false why is = refl
remove_server_leaves s key addr port true why is = remove_at_leaves s key (find (is_server_at key addr port) s.dests) why is

start_master_leaves : (s : State) (id : ℕ) (o : Option ℕ) → LeavesRefused s (start_master s id o)
start_master_leaves s id (Some runs) why is = refl
start_master_leaves s id None why is = absurd cc

start_backup_leaves : (s : State) (id : ℕ) (o : Option ℕ) → LeavesRefused s (start_backup s id o)
start_backup_leaves s id (Some runs) why is = refl
start_backup_leaves s id None why is = absurd cc

stop_master_leaves : (s : State) (o : Option ℕ) → LeavesRefused s (stop_master s o)
stop_master_leaves s None why is = refl
stop_master_leaves s (Some runs) why is = absurd cc

stop_backup_leaves : (s : State) (o : Option ℕ) → LeavesRefused s (stop_backup s o)
stop_backup_leaves s None why is = refl
stop_backup_leaves s (Some runs) why is = absurd cc

pub edit_leaves : (s : State) (c : Command) → LeavesRefused s (edit s c)
edit_leaves s (command.AddService service) why is = add_service_leaves s service (is_service s service.key) why is
edit_leaves s (command.EditService service) why is = edit_service_leaves s service (is_service s service.key) why is
edit_leaves s (command.RemoveService key) why is = remove_service_leaves s key (is_service s key) why is
edit_leaves s command.Clear why is = absurd cc
edit_leaves s (command.AddServer key spec) why is = add_server_leaves s key spec (is_service s key) (is_server s key spec.addr spec.port) (has_bad_thresholds spec) why is
edit_leaves s (command.EditServer key spec) why is = edit_server_leaves s key spec (is_service s key) (is_server s key spec.addr spec.port) (has_bad_thresholds spec) why is
edit_leaves s (command.RemoveServer key addr port) why is = remove_server_leaves s key addr port (is_service s key) why is
edit_leaves s (command.Timeouts established fin_wait udp) why is = absurd cc
edit_leaves s (command.StartMaster id) why is = start_master_leaves s id s.daemons.master why is
edit_leaves s (command.StartBackup id) why is = start_backup_leaves s id s.daemons.backup why is
edit_leaves s command.StopMaster why is = stop_master_leaves s s.daemons.master why is
edit_leaves s command.StopBackup why is = stop_backup_leaves s s.daemons.backup why is

-- A RECORD

learn_by_leaves : (s : State) (i : SyncItem) (a answer : Learnt) → (learn_by s i a).0 ≡ reply.Learnt answer → (answer ≡ learnt.Accepted → ⊥) → (learn_by s i a).1 ≡ s
learn_by_leaves s i learnt.Accepted answer is other = absurd (other cc)
learn_by_leaves s i learnt.Off answer is other = refl
learn_by_leaves s i learnt.OtherId answer is other = refl
learn_by_leaves s i learnt.V6 answer is other = refl
learn_by_leaves s i learnt.BadProto answer is other = refl
learn_by_leaves s i learnt.BadState answer is other = refl
learn_by_leaves s i learnt.BadMethod answer is other = refl

pub learn_leaves : (s : State) (sync_id : ℕ) (i : SyncItem) (answer : Learnt) → (learn s sync_id i).0 ≡ reply.Learnt answer → (answer ≡ learnt.Accepted → ⊥) → (learn s sync_id i).1 ≡ s
learn_leaves s sync_id i answer is other = learn_by_leaves s i (accept s.daemons.backup sync_id i) answer is other
