-- What the director answers to an item that isn't the clock's has a line.
use Rattle.std.proofs.Common.{◌≡◌, ℕ, Bool, true, false, not, ◌==◌, cond, List, Option, Some, None, Result, Ok, Err, refl, take, map, slice_get}
use Rattle.std.specs.List.{find}
use Rattle.lvs_types.specs.declared.addr.Addr.{Addr}
use Rattle.lvs_types.specs.declared.addr.TemplateId.{TemplateId}
use Rattle.lvs_types.specs.declared.head.Head.{Head}
use Rattle.lvs_types.specs.declared.head.Malformed.{Malformed}
use Rattle.lvs_types.specs.declared.service.Method.{Method}
use Rattle.lvs_types.specs.declared.service.Proto.{Proto}
use Rattle.lvs_types.specs.declared.service.Service.{Service}
use Rattle.lvs_types.specs.declared.service.ServiceKey.{ServiceKey}
use Rattle.lvs_types.specs.declared.service.Cursor.{Cursor}
use Rattle.lvs_types.specs.declared.dest.Dest.{Dest}
use Rattle.lvs_types.specs.declared.dest.DestSpec.{DestSpec}
use Rattle.lvs_types.specs.declared.entry.Entry.{Entry}
use Rattle.lvs_types.specs.declared.template.Template.{Template}
use Rattle.lvs_types.specs.declared.command.Command.{Command}
use Rattle.lvs_types.specs.declared.command.Command.TheVariants as command
use Rattle.lvs_types.specs.declared.sync.SyncItem.{SyncItem}
use Rattle.lvs_types.specs.declared.sync.Learnt.{Learnt}
use Rattle.lvs_types.specs.declared.sync.Learnt.TheVariants as learnt
use Rattle.lvs_types.specs.declared.item.Item.{Item}
use Rattle.lvs_types.specs.declared.item.Item.TheVariants as item
use Rattle.lvs_types.specs.declared.reply.Reply.{Reply}
use Rattle.lvs_types.specs.declared.reply.Reply.TheVariants as reply
use Rattle.lvs_types.specs.declared.reply.DropCause.TheVariants as drops
use Rattle.lvs_types.specs.Transport.{transport_of}
use Rattle.lvs_types.specs.Thresholds.{has_bad_thresholds}
use Rattle.lvs_model.specs.State.{State}
use Rattle.lvs_model.specs.Step.{step}
use Rattle.lvs_model.specs.Plans.{actor_of}
use Rattle.lvs_model.specs.Report.{is_printed}
use Rattle.lvs_model.specs.Reading.{read}
use Rattle.lvs_model.specs.Rewriting.{is_too_long, bytes_for}
use Rattle.lvs_model.specs.Counts.{candidates}
use Rattle.lvs_model.specs.Pick.{pick}
use Rattle.lvs_model.specs.Lookups.{find_service, servers_of, template_at, entry_at, reply_entry, is_server_at}
use Rattle.lvs_model.specs.Packets.{Packet, key_of, may_connect}
use Rattle.lvs_model.specs.Binding.{try_binding, put_template, template_tried}
use Rattle.lvs_model.specs.Persistence.{template_key, usable_server}
use Rattle.lvs_model.specs.Forwarding.{forwarded}
use Rattle.lvs_model.specs.Scheduling.{connect_to, enter, new_entry, connection_port, is_one_packet, with_cursor, new_template, replace_template, take_pick, pick_at, picked, schedule, renewed, use_template, persist_by, serve_packet, admit, connect}
use Rattle.lvs_model.specs.declared.incoming.Standing.{Standing}
use Rattle.lvs_model.specs.declared.incoming.Standing.TheVariants.{Reused, ServerGone, InUse}
use Rattle.lvs_model.specs.Incoming.{end_entry, continue, arrive, take_back, incoming_packet, incoming_of, incoming_read, server_named, standing_of}
use Rattle.lvs_model.specs.Outgoing.{answer_out, outgoing_of, outgoing_read}
use Rattle.lvs_model.specs.Edits.{edit, add_service_by, edit_service_by, remove_service_by, add_server_by, edit_server_by, remove_server_by, remove_server_at, start_master, start_backup, stop_master, stop_backup, is_service, is_server}
use Rattle.lvs_model.specs.SyncRules.{accept}
use Rattle.lvs_model.specs.Learning.{learn_by}

abbrev IsTold : Reply × State → Type 0
IsTold answer = is_printed answer.0 ≡ true

-- A PACKET THAT A SERVICE TAKES

forward_by : (b : Bool) (method : Method) (addr : Addr) (bytes : List ℕ) → is_printed (cond b (reply.Drop drops.TooLong) (reply.Forward method addr bytes)) ≡ true
forward_by true method addr bytes = refl
forward_by false method addr bytes = refl

forwarded_told : (s : State) (p : Packet) (method : Method) (daddr : Addr) (dport : ℕ) → is_printed (forwarded s p method daddr dport) ≡ true
forwarded_told s p method daddr dport = forward_by (is_too_long p.head method) method daddr (bytes_for s.local p.head p.bytes method daddr dport)

either_told : (b : Bool) (s t : State) (r q : Reply) → is_printed r ≡ true → is_printed q ≡ true → IsTold (cond {A = Reply × State} b (r, s) (q, t))
either_told true s t r q first second = first
either_told false s t r q first second = second

connect_to_told : (s : State) (p : Packet) (service : Service) (d : Dest) (template : Option TemplateId) → IsTold (connect_to s p service d template)
connect_to_told s p service d template =
    let e : Entry = new_entry s p service d template in
    let entered : Reply × State = enter s p e d in
    either_told (is_one_packet service p.proto) s entered.1 (forwarded s p d.spec.method d.spec.addr (connection_port d p.head)) entered.0
    (forwarded_told s p d.spec.method d.spec.addr (connection_port d p.head)) (forwarded_told s p e.method e.daddr e.dport)

take_pick_told : (s : State) (p : Packet) (service : Service) (d : Dest) (o : Option ℕ) → IsTold (take_pick s p service d o)
take_pick_told s p service d None = connect_to_told s p service d None
take_pick_told s p service d (Some seconds) =
    let t = new_template s (template_key service p.head.src) seconds d in connect_to_told (replace_template t s) p service d (Some t.id)

pick_at_told : (s : State) (p : Packet) (service : Service) (cursor : Cursor) (o : Option Dest) → IsTold (pick_at s p service cursor o)
pick_at_told s p service cursor None = refl
pick_at_told s p service cursor (Some d) = take_pick_told (with_cursor service.key cursor s) p service d service.persist

picked_told : (s : State) (p : Packet) (service : Service) (o : Option (ℕ × Cursor)) → IsTold (picked s p service o)
picked_told s p service None = refl
picked_told s p service (Some choice) = pick_at_told s p service choice.1 (slice_get (servers_of service.key s.dests) choice.0)

schedule_told : (s : State) (p : Packet) (service : Service) → IsTold (schedule s p service)
schedule_told s p service =
    picked_told s p service (pick service.scheduler (candidates service.key s.dests s.entries) (map (λ (d : Dest). d.spec.addr) (servers_of service.key s.dests)) service.cursor p.head.src p.head.dst)

use_template_told : (s : State) (p : Packet) (service : Service) (seconds : ℕ) (t : Template) (o : Option Dest) → IsTold (use_template s p service seconds t o)
use_template_told s p service seconds t None = schedule_told s p service
use_template_told s p service seconds t (Some d) = connect_to_told (record s { templates = put_template (renewed s seconds t) s.templates }) p service d (Some t.id)

persist_told : (s : State) (p : Packet) (service : Service) (seconds : ℕ) (o : Option Template) → IsTold (persist_by s p service seconds o)
persist_told s p service seconds None = schedule_told s p service
persist_told s p service seconds (Some t) =
    let tried : Template = template_tried s t t.server in
    use_template_told (record s { templates = put_template tried s.templates }) p service seconds tried (usable_server s.settings s.dests tried.server)

serve_told : (s : State) (p : Packet) (service : Service) (o : Option ℕ) → IsTold (serve_packet s p service o)
serve_told s p service None = schedule_told s p service
serve_told s p service (Some seconds) = persist_told s p service seconds (template_at (template_key service p.head.src) s.templates)

-- A PACKET

admit_told : (s : State) (p : Packet) (o : Option Service) (b : Bool) → IsTold (admit s p o b)
admit_told s p None b = refl
admit_told s p (Some service) false = refl
admit_told s p (Some service) true = serve_told s p service service.persist

connect_told : (s : State) (p : Packet) → IsTold (connect s p)
connect_told s p = admit_told s p (find_service p.proto p.head.dst p.head.dport p.mark s.services) (may_connect s.settings p.proto p.head)

continue_told : (s : State) (p : Packet) (e : Entry) (standing : Standing) → IsTold (continue s p e standing)
continue_told s p e Reused = connect_told (end_entry e s) p
continue_told s p e ServerGone = refl
continue_told s p e InUse = forwarded_told s p e.method e.daddr e.dport

arrive_told : (s : State) (p : Packet) (o : Option Entry) → IsTold (arrive s p o)
arrive_told s p None = connect_told s p
arrive_told s p (Some e) =
    let bound : Entry × State = try_binding s e e.server in
    continue_told bound.1 p bound.0 (standing_of bound.1.settings p bound.0 (server_named bound.0.server bound.1.dests))

take_back_told : (s : State) (r : Reply) (t : State) → is_printed r ≡ true → IsTold (take_back s (r, t))
take_back_told s (reply.Drop drops.TooLong) t is = refl
take_back_told s r t is = is

packet_told : (s : State) (p : Packet) → IsTold (incoming_packet s p)
packet_told s p =
    let o : Option Entry = entry_at (key_of p.proto p.head) s.entries in
    let answer : Reply × State = arrive s p o in
    take_back_told s answer.0 answer.1 (arrive_told s p o)

incoming_of_told : (s : State) (mark : ℕ) (head : Head) (bytes : List ℕ) (o : Option Proto) → IsTold (incoming_of s mark head bytes o)
incoming_of_told s mark head bytes None = refl
incoming_of_told s mark head bytes (Some proto) = packet_told s (record { mark = mark; proto = proto; head = head; bytes = take head.total bytes })

incoming_told : (s : State) (mark : ℕ) (bytes : List ℕ) (r : Result Head Malformed) → IsTold (incoming_read s mark bytes r)
incoming_told s mark bytes (Err why) = refl
incoming_told s mark bytes (Ok head) = incoming_of_told s mark head bytes (transport_of head)

answer_told : (s : State) (head : Head) (bytes : List ℕ) (o : Option Entry) → IsTold (answer_out s head bytes o)
answer_told s head bytes None = refl
answer_told s head bytes (Some e) = refl

outgoing_of_told : (s : State) (head : Head) (bytes : List ℕ) (o : Option Proto) → IsTold (outgoing_of s head bytes o)
outgoing_of_told s head bytes None = refl
outgoing_of_told s head bytes (Some proto) = answer_told s head (take head.total bytes) (reply_entry proto head.src head.sport head.dst head.dport s.entries)

outgoing_told : (s : State) (bytes : List ℕ) (r : Result Head Malformed) → IsTold (outgoing_read s bytes r)
outgoing_told s bytes (Err why) = refl
outgoing_told s bytes (Ok head) = outgoing_of_told s head bytes (transport_of head)

-- AN EDIT

add_service_told : (s : State) (service : Service) (b : Bool) → IsTold (add_service_by s service b)
add_service_told s service true = refl
add_service_told s service false = refl

edit_service_told : (s : State) (service : Service) (b : Bool) → IsTold (edit_service_by s service b)
edit_service_told s service true = refl
edit_service_told s service false = refl

remove_service_told : (s : State) (key : ServiceKey) (b : Bool) → IsTold (remove_service_by s key b)
remove_service_told s key true = refl
remove_service_told s key false = refl

add_server_told : (s : State) (key : ServiceKey) (spec : DestSpec) (a b c : Bool) → IsTold (add_server_by s key spec a b c)
add_server_told s key spec false b c = refl
add_server_told s key spec true true c = refl
add_server_told s key spec true false true = refl
add_server_told s key spec true false false = refl

edit_server_told : (s : State) (key : ServiceKey) (spec : DestSpec) (a b c : Bool) → IsTold (edit_server_by s key spec a b c)
edit_server_told s key spec false b c = refl
edit_server_told s key spec true false c = refl
edit_server_told s key spec true true true = refl
edit_server_told s key spec true true false = refl

remove_at_told : (s : State) (key : ServiceKey) (o : Option Dest) → IsTold (remove_server_at s key o)
remove_at_told s key None = refl
remove_at_told s key (Some d) = refl

remove_server_told : (s : State) (key : ServiceKey) (addr : Addr) (port : ℕ) (b : Bool) → IsTold (remove_server_by s key addr port b)
remove_server_told s key addr port false = refl
remove_server_told s key addr port true = remove_at_told s key (find (is_server_at key addr port) s.dests)

start_master_told : (s : State) (id : ℕ) (o : Option ℕ) → IsTold (start_master s id o)
start_master_told s id (Some runs) = refl
start_master_told s id None = refl

start_backup_told : (s : State) (id : ℕ) (o : Option ℕ) → IsTold (start_backup s id o)
start_backup_told s id (Some runs) = refl
start_backup_told s id None = refl

stop_master_told : (s : State) (o : Option ℕ) → IsTold (stop_master s o)
stop_master_told s (Some runs) = refl
stop_master_told s None = refl

stop_backup_told : (s : State) (o : Option ℕ) → IsTold (stop_backup s o)
stop_backup_told s (Some runs) = refl
stop_backup_told s None = refl

edit_told : (s : State) (c : Command) → IsTold (edit s c)
edit_told s (command.AddService service) = add_service_told s service (is_service s service.key)
edit_told s (command.EditService service) = edit_service_told s service (is_service s service.key)
edit_told s (command.RemoveService key) = remove_service_told s key (is_service s key)
edit_told s command.Clear = refl
edit_told s (command.AddServer key spec) = add_server_told s key spec (is_service s key) (is_server s key spec.addr spec.port) (has_bad_thresholds spec)
edit_told s (command.EditServer key spec) = edit_server_told s key spec (is_service s key) (is_server s key spec.addr spec.port) (has_bad_thresholds spec)
edit_told s (command.RemoveServer key addr port) = remove_server_told s key addr port (is_service s key)
edit_told s (command.Timeouts established fin_wait udp) = refl
edit_told s (command.StartMaster id) = start_master_told s id s.daemons.master
edit_told s (command.StartBackup id) = start_backup_told s id s.daemons.backup
edit_told s command.StopMaster = stop_master_told s s.daemons.master
edit_told s command.StopBackup = stop_backup_told s s.daemons.backup

-- A RECORD

learn_told : (s : State) (i : SyncItem) (answer : Learnt) → IsTold (learn_by s i answer)
learn_told s i learnt.Accepted = refl
learn_told s i answer = refl

-- AN ITEM

pub told : (s : State) (i : Item) → not (actor_of i == 0) ≡ true → IsTold (step s i)
told s (item.Incoming mark bytes) other = incoming_told s mark bytes (read bytes)
told s (item.Outgoing bytes) other = outgoing_told s bytes (read bytes)
told s (item.Edit c) other = edit_told s c
told s (item.Set setting) other = refl
told s (item.Learn sync_id i) other = learn_told s i (accept s.daemons.backup sync_id i)
told s (item.BadSync why) other = refl
told s (item.Tick moment) other = absurd cc
told s (item.Sweep bucket) other = absurd cc
told s item.Reap other = absurd cc
told s item.SendSync other = absurd cc
