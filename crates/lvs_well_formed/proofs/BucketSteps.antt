-- Every step changes entries of the item's bucket alone, leaves ids rising, and leaves the number of buckets.
use Rattle.std.proofs.Common.{◌≡◌, ◌≢◌, ◌==◌, ◌&&◌, ◌||◌, ◌+◌, ◌<◌, ◌≤◌, ℕ, Bool, true, false, cond, not, List, [], ◌∷◌, ◌++◌, Option, Some, None, is_some, Result, Ok, Err, refl, sym, ◌∙◌, ap, subst, arith, take, map, slice_get, nat_lt, nat_le, ◌/◌, ◌^◌}
use Rattle.std.proofs.lemmas.Bool.{and_parts, eqb-true, ltb-false, false_from_ne_true}
use Rattle.std.proofs.Math.Nat.{mod-lt}
use Rattle.std.specs.List.Sorted.{IsStrictlyIncreasing}
use Rattle.std.specs.List.{AllByRecursion, find, filter}
use Rattle.lvs_types.specs.Thresholds.{has_bad_thresholds}
use Rattle.lvs_types.specs.Transport.{transport_of}
use Rattle.lvs_types.specs.Protocols.{proto_code, proto_of_code}
use Rattle.lvs_types.specs.declared.addr.Addr.{Addr}
use Rattle.lvs_types.specs.declared.addr.TemplateId.{TemplateId}
use Rattle.lvs_types.specs.declared.head.Head.{Head}
use Rattle.lvs_types.specs.declared.head.Malformed.{Malformed}
use Rattle.lvs_types.specs.declared.service.Proto.{Proto}
use Rattle.lvs_types.specs.declared.service.Proto.TheVariants.{Tcp, Udp}
use Rattle.lvs_types.specs.declared.service.Method.TheVariants.{Masq}
use Rattle.lvs_types.specs.declared.service.Service.{Service}
use Rattle.lvs_types.specs.declared.service.ServiceKey.{ServiceKey}
use Rattle.lvs_types.specs.declared.service.Cursor.{Cursor}
use Rattle.lvs_types.specs.declared.dest.Dest.{Dest}
use Rattle.lvs_types.specs.declared.dest.DestSpec.{DestSpec}
use Rattle.lvs_types.specs.declared.entry.Key.{Key}
use Rattle.lvs_types.specs.declared.entry.Entry.{Entry}
use Rattle.lvs_types.specs.declared.entry.Direction.TheVariants.{Output}
use Rattle.lvs_types.specs.declared.template.Template.{Template}
use Rattle.lvs_types.specs.declared.settings.Settings.{Settings}
use Rattle.lvs_types.specs.declared.settings.Daemons.{Daemons}
use Rattle.lvs_types.specs.declared.sync.SyncRecord.{SyncRecord}
use Rattle.lvs_types.specs.declared.sync.SyncItem.{SyncItem}
use Rattle.lvs_types.specs.declared.sync.SyncItem.TheVariants.{V4, V6}
use Rattle.lvs_types.specs.declared.sync.Learnt.{Learnt}
use Rattle.lvs_types.specs.declared.sync.Learnt.TheVariants as learnt
use Rattle.lvs_types.specs.declared.command.Command.{Command}
use Rattle.lvs_types.specs.declared.command.Command.TheVariants as command
use Rattle.lvs_types.specs.declared.item.Item.{Item}
use Rattle.lvs_types.specs.declared.item.Item.TheVariants as item
use Rattle.lvs_types.specs.declared.reply.Reply.{Reply}
use Rattle.lvs_types.specs.declared.reply.Reply.TheVariants as reply
use Rattle.lvs_types.specs.declared.reply.DropCause.TheVariants as drops
use Rattle.lvs_model.specs.State.{State, initial}
use Rattle.lvs_model.specs.Same.{proto_eq, addr_eq, method_eq}
use Rattle.lvs_model.specs.Reading.{read}
use Rattle.lvs_model.specs.Numbers.{bucket_of, mix}
use Rattle.lvs_model.specs.Lists.{without}
use Rattle.lvs_model.specs.Lookups.{entry_at, reply_entry, is_reply_of, has_entry_id, find_service, servers_of, template_at, is_server_at}
use Rattle.lvs_model.specs.Counts.{candidates}
use Rattle.lvs_model.specs.Pick.{pick}
use Rattle.lvs_model.specs.Persistence.{template_key, usable_server}
use Rattle.lvs_model.specs.Packets.{Packet, key_of, may_connect}
use Rattle.lvs_model.specs.Binding.{try_binding, template_tried, put_template}
use Rattle.lvs_model.specs.Forwarding.{after_packet, state_after, in_state}
use Rattle.lvs_model.specs.Scheduling.{enter, connect_to, is_one_packet, new_entry, take_pick, new_template, replace_template, with_cursor, pick_at, picked, schedule, use_template, try_template, persist_by, serve_packet, admit, connect, renewed}
use Rattle.lvs_model.specs.declared.incoming.Standing.{Standing}
use Rattle.lvs_model.specs.declared.incoming.Standing.TheVariants.{Reused, ServerGone, InUse}
use Rattle.lvs_model.specs.Incoming.{end_entry, continue, arrive, take_back, incoming_packet, incoming_of, incoming_read, server_named, standing_of}
use Rattle.lvs_model.specs.Outgoing.{answer_out, outgoing_of, outgoing_read}
use Rattle.lvs_model.specs.Edits.{edit, add_service_by, edit_service_by, remove_service_by, add_server_by, place_server, edit_server_by, remove_server_by, remove_server_at, start_master, start_backup, stop_master, stop_backup, is_service, is_server, is_revivable}
use Rattle.lvs_model.specs.SyncRules.{accept, accept_item, accept_record, has_known_protocol, has_known_state, has_known_method, is_template_record}
use Rattle.lvs_model.specs.Learning.{recorded_key, recorded_entry, add_entry, relearnt, goes_to_recorded, relearn, learn_connection, recorded_template_key, template_goes_to_recorded, relearn_template, learn_template, learn_item, learn_by}
use Rattle.lvs_model.specs.Clock.{entry_bucket, is_swept}
use Rattle.lvs_model.specs.WellFormed.{IsDrawn, IsWellFormed, entry_ids}
use Rattle.lvs_model.specs.Step.{step, run}
use Rattle.lvs_model.specs.Buckets.{is_in_bucket, entries_of, home, head_read, source_bucket, incoming_bucket, destination_bucket, outgoing_bucket, record_bucket, key_of_proto, key_of_learnt}
use Rattle.lvs_model.proofs.OrderLemmas.{keep_all, rising_from}
use Rattle.lvs_well_formed.specs.Moments.{moment_after}
use Rattle.lvs_well_formed.proofs.Lists.{all_push, all_weaker, all_true, all_filter, all_filtered, all_unmap}
use Rattle.lvs_well_formed.proofs.Keys.{addr_true, proto_true}
use Rattle.lvs_well_formed.proofs.Parts.{Parts, parts_of}
use Rattle.lvs_well_formed.proofs.Steps.{step_after, initial_well_formed}
use Rattle.lvs_well_formed.proofs.Entries.{entries_found}
use Rattle.lvs_well_formed.proofs.Free.{found_by_key, found_of_key}
use Rattle.lvs_well_formed.proofs.Packets.{all_least}
use Rattle.lvs_well_formed.proofs.Learns.{accepted_item}
use Rattle.lvs_well_formed.proofs.BucketLists.{AreRising, rising_filter, rising_of}
use Rattle.lvs_well_formed.proofs.Within.{Stand, Still, Within, Holds, AreHeld, within_same, within_rest, within_left, within_added, holds_found, holds_put, try_holds, end_within, away}

-- A NEW CONNECTION

-- the bucket of the packet's source
abbrev IsHome : ℕ → State → Packet → Type 0
IsHome h s p = bucket_of (proto_code p.proto) p.head.src p.head.sport s.buckets ≡ h

enter_within : (h : ℕ) (s t : State) (p : Packet) (e : Entry) (d : Dest) → e.id ≡ t.next_entry → entry_bucket s.buckets e ≡ h → Within h s t → Within h s (enter t p e d).1
enter_within h s t p e d id is w = within_rest h s _ _ refl refl refl refl (within_added h s t e id is w)

connect_to_by : (h : ℕ) (one_packet : Bool) (s t : State) (p : Packet) (service : Service) (d : Dest) (template : Option TemplateId) (r : Reply) → IsHome h s p → Within h s t
    → Within h s (cond one_packet (r, t) (enter t p (new_entry t p service d template) d)).1
connect_to_by h true s t p service d template r is w = w
connect_to_by h false s t p service d template r is w = enter_within h s t p (new_entry t p service d template) d refl is w

connect_to_within : (h : ℕ) (s t : State) (p : Packet) (service : Service) (d : Dest) (template : Option TemplateId) → IsHome h s p → Within h s t → Within h s (connect_to t p service d template).1
connect_to_within h s t p service d template is w = connect_to_by h (is_one_packet service p.proto) s t p service d template _ is w

take_pick_within : (h : ℕ) (s t : State) (p : Packet) (service : Service) (d : Dest) (o : Option ℕ) → IsHome h s p → Within h s t → Within h s (take_pick t p service d o).1
take_pick_within h s t p service d None is w = connect_to_within h s t p service d None is w
take_pick_within h s t p service d (Some seconds) is w =
    let template : Template = new_template t (template_key service p.head.src) seconds d in
    connect_to_within h s (replace_template template t) p service d (Some template.id) is (within_rest h s t _ refl refl refl refl w)

pick_at_within : (h : ℕ) (s t : State) (p : Packet) (service : Service) (cursor : Cursor) (o : Option Dest) → IsHome h s p → Within h s t → Within h s (pick_at t p service cursor o).1
pick_at_within h s t p service cursor None is w = w
pick_at_within h s t p service cursor (Some d) is w =
    take_pick_within h s (with_cursor service.key cursor t) p service d service.persist is (within_rest h s t _ refl refl refl refl w)

picked_within : (h : ℕ) (s t : State) (p : Packet) (service : Service) (o : Option (ℕ × Cursor)) → IsHome h s p → Within h s t → Within h s (picked t p service o).1
picked_within h s t p service None is w = w
picked_within h s t p service (Some choice) is w = pick_at_within h s t p service choice.1 (slice_get (servers_of service.key t.dests) choice.0) is w

schedule_within : (h : ℕ) (s t : State) (p : Packet) (service : Service) → IsHome h s p → Within h s t → Within h s (schedule t p service).1
schedule_within h s t p service is w =
    picked_within h s t p service (pick service.scheduler (candidates service.key t.dests t.entries) (map (λ (d : Dest). d.spec.addr) (servers_of service.key t.dests)) service.cursor p.head.src p.head.dst) is w

use_template_within : (h : ℕ) (s t : State) (p : Packet) (service : Service) (seconds : ℕ) (template : Template) (o : Option Dest) → IsHome h s p → Within h s t → Within h s (use_template t p service seconds template o).1
use_template_within h s t p service seconds template None is w = schedule_within h s t p service is w
use_template_within h s t p service seconds template (Some d) is w =
    connect_to_within h s _ p service d (Some template.id) is (within_rest h s t (record t { templates = put_template (renewed t seconds template) t.templates }) refl refl refl refl w)

try_template_within : (h : ℕ) (s t : State) (p : Packet) (service : Service) (seconds : ℕ) (template : Template) → IsHome h s p → Within h s t → Within h s (try_template t p service seconds template).1
try_template_within h s t p service seconds template is w =
    use_template_within h s _ p service seconds template (usable_server t.settings t.dests template.server) is (within_rest h s t (record t { templates = put_template template t.templates }) refl refl refl refl w)

persist_within : (h : ℕ) (s t : State) (p : Packet) (service : Service) (seconds : ℕ) (o : Option Template) → IsHome h s p → Within h s t → Within h s (persist_by t p service seconds o).1
persist_within h s t p service seconds None is w = schedule_within h s t p service is w
persist_within h s t p service seconds (Some template) is w = try_template_within h s t p service seconds (template_tried t template template.server) is w

serve_within : (h : ℕ) (s t : State) (p : Packet) (service : Service) (o : Option ℕ) → IsHome h s p → Within h s t → Within h s (serve_packet t p service o).1
serve_within h s t p service None is w = schedule_within h s t p service is w
serve_within h s t p service (Some seconds) is w = persist_within h s t p service seconds (template_at (template_key service p.head.src) t.templates) is w

admit_within : (h : ℕ) (s t : State) (p : Packet) (o : Option Service) (allowed : Bool) → IsHome h s p → Within h s t → Within h s (admit t p o allowed).1
admit_within h s t p None allowed is w = w
admit_within h s t p (Some service) false is w = w
admit_within h s t p (Some service) true is w = serve_within h s t p service service.persist is w

connect_within : (h : ℕ) (s t : State) (p : Packet) → IsHome h s p → Within h s t → Within h s (connect t p).1
connect_within h s t p is w =
    admit_within h s t p (find_service p.proto p.head.dst p.head.dport p.mark t.services) (may_connect t.settings p.proto p.head) is w

-- A CONNECTION THAT IS THERE

either_within : (h : ℕ) (b : Bool) (s t u : State) → Within h s t → Within h s u → Within h s (cond b t u)
either_within h true s t u first second = first
either_within h false s t u first second = second

continue_within : (h : ℕ) (s t : State) (p : Packet) (e : Entry) (standing : Standing) → IsHome h s p → Holds h s t e → Within h s (continue t p e standing).1
continue_within h s t p e Reused is holds = connect_within h s (end_entry e t) p is (end_within h s t e holds)
continue_within h s t p e ServerGone is holds = either_within h (t.settings.expire_nodest == 0) s t (end_entry e t) holds.within (end_within h s t e holds)
continue_within h s t p e InUse is holds =
    within_rest h s _ _ refl refl refl refl (holds_put h s t e (after_packet t p e) refl holds.is holds).within

-- an entry of the key is in the bucket of the key
key_bucket : (buckets h : ℕ) (key : Key) (e : Entry) → e.key ≡ key → bucket_of (proto_code key.proto) key.caddr key.cport buckets ≡ h → entry_bucket buckets e ≡ h
key_bucket buckets h key e same is = ap (λ (k : Key). bucket_of (proto_code k.proto) k.caddr k.cport buckets) same ∙ is

arrive_within : (h : ℕ) (s : State) (p : Packet) (o : Option Entry) → Parts s → entry_at (key_of p.proto p.head) s.entries ≡ o → IsHome h s p → Within h s (arrive s p o).1
arrive_within h s p None parts found is = connect_within h s s p is (within_same h s)
arrive_within h s p (Some e) parts found is =
    let key : Key = key_of p.proto p.head in
    let holds : Holds h s s e = holds_found h s e parts (found_by_key s key e parts found) (key_bucket s.buckets h key e (found_of_key s key e found) is) in
    let bound : Entry × State = try_binding s e e.server in
    let server = server_named bound.0.server bound.1.dests in
    continue_within h s bound.1 p bound.0 (standing_of bound.1.settings p bound.0 server) is (try_holds h s s e e.server holds)

take_back_within : (h : ℕ) (s : State) (r : Reply) (t : State) → Within h s t → Within h s (take_back s (r, t)).1
take_back_within h s (reply.Drop drops.TooLong) t w = within_same h s
take_back_within h s r t w = w

packet_within : (h : ℕ) (s : State) (p : Packet) → Parts s → IsHome h s p → Within h s (incoming_packet s p).1
packet_within h s p parts is =
    let o : Option Entry = entry_at (key_of p.proto p.head) s.entries in
    let answer : Reply × State = arrive s p o in
    take_back_within h s answer.0 answer.1 (arrive_within h s p o parts refl is)

-- BY THE ITEM'S BUCKET

-- of an item's bucket alone, or of none
abbrev pub Local : State → Option ℕ → State → Type 0
Local s None t = Still s t
Local s (Some h) t = Within h s t

still : (s : State) → Still s s
still s = record { now = refl; buckets = refl; entries = refl; next_entry = refl }

local_same : (s : State) (o : Option ℕ) → Local s o s
local_same s None = still s
local_same s (Some h) = within_same h s

incoming_of_local : (s : State) (mark : ℕ) (head : Head) (bytes : List ℕ) (o : Option Proto) → Parts s → Local s (source_bucket s.buckets head o) (incoming_of s mark head bytes o).1
incoming_of_local s mark head bytes None parts = still s
incoming_of_local s mark head bytes (Some proto) parts =
    packet_within (bucket_of (proto_code proto) head.src head.sport s.buckets) s (record { mark = mark; proto = proto; head = head; bytes = take head.total bytes }) parts refl

incoming_local : (s : State) (mark : ℕ) (bytes : List ℕ) (r : Result Head Malformed) → Parts s → Local s (incoming_bucket s.buckets (head_read r)) (incoming_read s mark bytes r).1
incoming_local s mark bytes (Err why) parts = still s
incoming_local s mark bytes (Ok head) parts = incoming_of_local s mark head bytes (transport_of head) parts

-- the entry of an answer is in the bucket of its client
pub answered_bucket : (buckets : ℕ) (proto : Proto) (daddr : Addr) (dport : ℕ) (caddr : Addr) (cport : ℕ) (e : Entry) → is_reply_of proto daddr dport caddr cport e ≡ true → entry_bucket buckets e ≡ bucket_of (proto_code proto) caddr cport buckets
answered_bucket buckets proto daddr dport caddr cport e is =
    let second : Bool = method_eq e.method Masq && proto_eq e.key.proto proto in
    let third : Bool = second && addr_eq e.daddr daddr in
    let fourth : Bool = third && (e.dport == dport) in
    let ports = and_parts (fourth && addr_eq e.key.caddr caddr) (e.key.cport == cport) is in
    let addrs = and_parts fourth (addr_eq e.key.caddr caddr) ports.0 in
    let protos = and_parts (method_eq e.method Masq) (proto_eq e.key.proto proto) (and_parts second (addr_eq e.daddr daddr) (and_parts third (e.dport == dport) addrs.0).0).0 in
    ap (λ (x : Proto). bucket_of (proto_code x) e.key.caddr e.key.cport buckets) (proto_true e.key.proto proto protos.1)
    ∙ ap (λ (x : Addr). bucket_of (proto_code proto) x e.key.cport buckets) (addr_true e.key.caddr caddr addrs.1)
    ∙ ap (λ (x : ℕ). bucket_of (proto_code proto) caddr x buckets) (eqb-true e.key.cport cport ports.1)

answer_within : (h : ℕ) (s : State) (head : Head) (bytes : List ℕ) (o : Option Entry) → ((e : Entry) → o ≡ Some e → Holds h s s e) → Within h s (answer_out s head bytes o).1
answer_within h s head bytes None holds = within_same h s
answer_within h s head bytes (Some e) holds = (holds_put h s s e (in_state s.settings s.now (state_after e.state Output head) e) refl (holds e refl).is (holds e refl)).within

outgoing_of_local : (s : State) (head : Head) (bytes : List ℕ) (o : Option Proto) → Parts s → Local s (destination_bucket s.buckets head o) (outgoing_of s head bytes o).1
outgoing_of_local s head bytes None parts = still s
outgoing_of_local s head bytes (Some proto) parts =
    let h : ℕ = bucket_of (proto_code proto) head.dst head.dport s.buckets in
    let test : Entry → Bool = is_reply_of proto head.src head.sport head.dst head.dport in
    let IsIn : Entry → Type 0 = λ e. find (has_entry_id e.id) s.entries ≡ Some e in
    answer_within h s head (take head.total bytes) (reply_entry proto head.src head.sport head.dst head.dport s.entries)
    (λ e is.
    holds_found h s e parts (all_least IsIn (filter test s.entries) e (all_filter IsIn test s.entries (entries_found s parts)) is)
    (all_least (λ x. entry_bucket s.buckets x ≡ h) (filter test s.entries) e (all_filtered (λ x. entry_bucket s.buckets x ≡ h) test s.entries (answered_bucket s.buckets proto head.src head.sport head.dst head.dport)) is))

outgoing_local : (s : State) (bytes : List ℕ) (r : Result Head Malformed) → Parts s → Local s (outgoing_bucket s.buckets (head_read r)) (outgoing_read s bytes r).1
outgoing_local s bytes (Err why) parts = still s
outgoing_local s bytes (Ok head) parts = outgoing_of_local s head bytes (transport_of head) parts

-- EDITS

edited : (s : State) (services : List Service) (dests : List Dest) (settings : Settings) (daemons : Daemons) (pending : List SyncRecord) (next_dest : ℕ)
    → Still s (record s { services = services; dests = dests; settings = settings; daemons = daemons; pending = pending; next_dest = next_dest })
edited s services dests settings daemons pending next_dest = record { now = refl; buckets = refl; entries = refl; next_entry = refl }

add_service_still : (s : State) (service : Service) (b : Bool) → Still s (add_service_by s service b).1
add_service_still s service true = still s
add_service_still s service false = edited s _ s.dests s.settings s.daemons s.pending s.next_dest

edit_service_still : (s : State) (service : Service) (b : Bool) → Still s (edit_service_by s service b).1
edit_service_still s service false = still s
edit_service_still s service true = edited s _ s.dests s.settings s.daemons s.pending s.next_dest

remove_service_still : (s : State) (key : ServiceKey) (b : Bool) → Still s (remove_service_by s key b).1
remove_service_still s key false = still s
remove_service_still s key true = edited s _ _ s.settings s.daemons s.pending s.next_dest

place_still : (s : State) (key : ServiceKey) (spec : DestSpec) (o : Option Dest) → Still s (place_server s key spec o)
place_still s key spec None = edited s s.services _ s.settings s.daemons s.pending _
place_still s key spec (Some d) = edited s s.services _ s.settings s.daemons s.pending s.next_dest

add_server_still : (s : State) (key : ServiceKey) (spec : DestSpec) (a b c : Bool) → Still s (add_server_by s key spec a b c).1
add_server_still s key spec false b c = still s
add_server_still s key spec true true c = still s
add_server_still s key spec true false true = still s
add_server_still s key spec true false false = place_still s key spec (find (is_revivable key spec) s.dests)

edit_server_still : (s : State) (key : ServiceKey) (spec : DestSpec) (a b c : Bool) → Still s (edit_server_by s key spec a b c).1
edit_server_still s key spec false b c = still s
edit_server_still s key spec true false c = still s
edit_server_still s key spec true true true = still s
edit_server_still s key spec true true false = edited s s.services _ s.settings s.daemons s.pending s.next_dest

remove_at_still : (s : State) (key : ServiceKey) (o : Option Dest) → Still s (remove_server_at s key o).1
remove_at_still s key None = still s
remove_at_still s key (Some d) = edited s _ _ s.settings s.daemons s.pending s.next_dest

remove_server_still : (s : State) (key : ServiceKey) (addr : Addr) (port : ℕ) (b : Bool) → Still s (remove_server_by s key addr port b).1
remove_server_still s key addr port false = still s
remove_server_still s key addr port true = remove_at_still s key (find (is_server_at key addr port) s.dests)

start_master_still : (s : State) (id : ℕ) (o : Option ℕ) → Still s (start_master s id o).1
start_master_still s id (Some runs) = still s
start_master_still s id None = edited s s.services s.dests s.settings _ s.pending s.next_dest

start_backup_still : (s : State) (id : ℕ) (o : Option ℕ) → Still s (start_backup s id o).1
start_backup_still s id (Some runs) = still s
start_backup_still s id None = edited s s.services s.dests s.settings _ s.pending s.next_dest

stop_master_still : (s : State) (o : Option ℕ) → Still s (stop_master s o).1
stop_master_still s None = still s
stop_master_still s (Some runs) = edited s s.services s.dests s.settings _ _ s.next_dest

stop_backup_still : (s : State) (o : Option ℕ) → Still s (stop_backup s o).1
stop_backup_still s None = still s
stop_backup_still s (Some runs) = edited s s.services s.dests s.settings _ s.pending s.next_dest

edit_still : (s : State) (c : Command) → Still s (edit s c).1
edit_still s (command.AddService service) = add_service_still s service (is_service s service.key)
edit_still s (command.EditService service) = edit_service_still s service (is_service s service.key)
edit_still s (command.RemoveService key) = remove_service_still s key (is_service s key)
edit_still s command.Clear = edited s _ _ s.settings s.daemons s.pending s.next_dest
edit_still s (command.AddServer key spec) = add_server_still s key spec (is_service s key) (is_server s key spec.addr spec.port) (has_bad_thresholds spec)
edit_still s (command.EditServer key spec) = edit_server_still s key spec (is_service s key) (is_server s key spec.addr spec.port) (has_bad_thresholds spec)
edit_still s (command.RemoveServer key addr port) = remove_server_still s key addr port (is_service s key)
edit_still s (command.Timeouts established fin_wait udp) = edited s s.services s.dests _ s.daemons s.pending s.next_dest
edit_still s (command.StartMaster id) = start_master_still s id s.daemons.master
edit_still s (command.StartBackup id) = start_backup_still s id s.daemons.backup
edit_still s command.StopMaster = stop_master_still s s.daemons.master
edit_still s command.StopBackup = stop_backup_still s s.daemons.backup

-- RECORDS THAT ARRIVE

add_entry_within : (h : ℕ) (s t : State) (e : Entry) → AllByRecursion (λ (x : Entry). x.id < t.next_entry) t.entries → e.id ≡ t.next_entry → entry_bucket s.buckets e ≡ h → Within h s t → Within h s (add_entry t e)
add_entry_within h s t e below id is w =
    let pushed : State = record t { entries = t.entries ++ e ∷ []; next_entry = t.next_entry + 1 } in
    let older : AreHeld h s.buckets e.id t.entries =
    all_weaker (λ (x : Entry). x.id < t.next_entry) (λ (x : Entry). has_entry_id e.id x ≡ true → entry_bucket s.buckets x ≡ h) t.entries
    (λ x young here. let same : x.id ≡ e.id = eqb-true x.id e.id here in absurd (omega (arith, young, same, id))) below in
    let holds : Holds h s pushed e = record {
      within = within_added h s t e id is w;
      held = all_push (λ (x : Entry). has_entry_id e.id x ≡ true → entry_bucket s.buckets x ≡ h) t.entries e older (λ here. is);
      is = is;
    } in
    (try_holds h s pushed e None holds).within

-- the ids of a well formed state are below the next one
all_below : (s : State) → Parts s → AllByRecursion (λ (e : Entry). e.id < s.next_entry) s.entries
all_below s parts =
    all_weaker (λ (e : Entry). IsDrawn s.next_entry e.id) (λ (e : Entry). e.id < s.next_entry) s.entries (λ e drawn. drawn.1)
    (all_unmap (IsDrawn s.next_entry) (λ (e : Entry). e.id) s.entries parts.entries.ids.each)

-- the bucket of the record's client
abbrev record_home : State → SyncRecord → ℕ
record_home s r = bucket_of (proto_code (recorded_key r).proto) r.caddr r.cport s.buckets

relearn_within : (s : State) (r : SyncRecord) (e : Entry) (b : Bool) → Parts s → Holds (record_home s r) s s e → Within (record_home s r) s (relearn s r e b)
relearn_within s r e true parts holds =
    let after : Entry = relearnt s r e in
    (try_holds (record_home s r) s _ after after.server (holds_put (record_home s r) s s e after refl holds.is holds)).within
relearn_within s r e false parts holds =
    let left : State = end_entry e s in
    add_entry_within (record_home s r) s left (recorded_entry left r) (all_filter (λ (x : Entry). x.id < s.next_entry) (λ (x : Entry). not (has_entry_id e.id x)) s.entries (all_below s parts)) refl refl
    (end_within (record_home s r) s s e holds)

learn_connection_within : (s : State) (r : SyncRecord) (o : Option Entry) → Parts s → entry_at (recorded_key r) s.entries ≡ o → Within (record_home s r) s (learn_connection s r o)
learn_connection_within s r None parts found = add_entry_within (record_home s r) s s (recorded_entry s r) (all_below s parts) refl refl (within_same (record_home s r) s)
learn_connection_within s r (Some e) parts found =
    let key : Key = recorded_key r in
    relearn_within s r e (goes_to_recorded r e) parts (holds_found (record_home s r) s e parts (found_by_key s key e parts found) (key_bucket s.buckets (record_home s r) key e (found_of_key s key e found) refl))

relearn_template_still : (s : State) (r : SyncRecord) (t : Template) (b : Bool) → Still s (relearn_template s r t b)
relearn_template_still s r t true = record { now = refl; buckets = refl; entries = refl; next_entry = refl }
relearn_template_still s r t false = record { now = refl; buckets = refl; entries = refl; next_entry = refl }

learn_template_still : (s : State) (r : SyncRecord) (o : Option Template) → Still s (learn_template s r o)
learn_template_still s r None = record { now = refl; buckets = refl; entries = refl; next_entry = refl }
learn_template_still s r (Some t) = relearn_template_still s r t (template_goes_to_recorded r t)

-- the protocol of an accepted connection's record is TCP or UDP
accepted_by : (protocol state method : Bool) → cond (not protocol) learnt.BadProto (cond (not state) learnt.BadState (cond (not method) learnt.BadMethod learnt.Accepted)) ≡ learnt.Accepted → protocol ≡ true
accepted_by true state method is = refl
accepted_by false state method is = absurd cc

proto_there : (o : Option Proto) (other : Bool) → (is_some o || (false && other)) ≡ true → o ≢ None
proto_there (Some proto) other is = λ none. absurd cc
proto_there None other is = absurd cc

connection_local : (s : State) (r : SyncRecord) (o : Option Proto) → o ≢ None → Parts s → Local s (record_bucket s.buckets (key_of_proto r o)) (learn_connection s r (entry_at (recorded_key r) s.entries))
connection_local s r None there parts = absurd (there refl)
connection_local s r (Some proto) there parts = learn_connection_within s r (entry_at (recorded_key r) s.entries) parts refl

record_by : (s : State) (r : SyncRecord) (template : Bool) → (template ≡ false → proto_of_code r.code ≢ None) → Parts s
    → Local s (record_bucket s.buckets (cond template None (key_of_proto r (proto_of_code r.code)))) (cond template (learn_template s r (template_at (recorded_template_key r) s.templates)) (learn_connection s r (entry_at (recorded_key r) s.entries)))
record_by s r true there parts = learn_template_still s r (template_at (recorded_template_key r) s.templates)
record_by s r false there parts = connection_local s r (proto_of_code r.code) (there refl) parts

accepted_proto : (r : SyncRecord) → accept_record r ≡ learnt.Accepted → is_template_record r ≡ false → proto_of_code r.code ≢ None
accepted_proto r is connection =
    let known : has_known_protocol r ≡ true = accepted_by (has_known_protocol r) (has_known_state r) (has_known_method r) is in
    proto_there (proto_of_code r.code) (r.code == 0) (subst (λ b. (is_some (proto_of_code r.code) || (b && (r.code == 0))) ≡ true) connection known)

learn_item_local : (s : State) (i : SyncItem) → accept_item i ≡ learnt.Accepted → Parts s → Local s (record_bucket s.buckets (key_of_learnt i)) (learn_item s i)
learn_item_local s V6 is parts = still s
learn_item_local s (V4 r) is parts = record_by s r (is_template_record r) (accepted_proto r is) parts

learn_by_local : (s : State) (i : SyncItem) (a : Learnt) → (a ≡ learnt.Accepted → accept_item i ≡ learnt.Accepted) → Parts s → Local s (record_bucket s.buckets (key_of_learnt i)) (learn_by s i a).1
learn_by_local s i learnt.Accepted accepted parts = learn_item_local s i (accepted refl) parts
learn_by_local s i learnt.Off accepted parts = local_same s (record_bucket s.buckets (key_of_learnt i))
learn_by_local s i learnt.OtherId accepted parts = local_same s (record_bucket s.buckets (key_of_learnt i))
learn_by_local s i learnt.V6 accepted parts = local_same s (record_bucket s.buckets (key_of_learnt i))
learn_by_local s i learnt.BadProto accepted parts = local_same s (record_bucket s.buckets (key_of_learnt i))
learn_by_local s i learnt.BadState accepted parts = local_same s (record_bucket s.buckets (key_of_learnt i))
learn_by_local s i learnt.BadMethod accepted parts = local_same s (record_bucket s.buckets (key_of_learnt i))

-- A SWEEP

swept_apart : (s : State) (bucket b : ℕ) → bucket ≢ b → (e : Entry) → is_swept s bucket e ≡ true → is_in_bucket s.buckets b e ≡ false
swept_apart s bucket b other e is =
    let parts = and_parts (entry_bucket s.buckets e == bucket) (nat_le e.deadline s.now) is in
    away bucket b s.buckets e (eqb-true (entry_bucket s.buckets e) bucket parts.0) other

-- a bucket that isn't there has no entries
none_swept : (s : State) (bucket : ℕ) → 0 < s.buckets → s.buckets ≤ bucket → (e : Entry) → is_swept s bucket e ≡ false
none_swept s bucket some past e =
    false_from_ne_true (is_swept s bucket e)
    (λ is.
    let parts = and_parts (entry_bucket s.buckets e == bucket) (nat_le e.deadline s.now) is in
    let same : entry_bucket s.buckets e ≡ bucket = eqb-true (entry_bucket s.buckets e) bucket parts.0 in
    let within : entry_bucket s.buckets e < s.buckets = mod-lt (mix (proto_code e.key.proto) e.key.caddr e.key.cport / 2 ^ 24) some in
    omega (arith, same, within, past))

sweep_by : (s : State) (bucket : ℕ) (there : Bool) → 0 < s.buckets → (there ≡ false → s.buckets ≤ bucket) → Local s (cond there (Some bucket) None) (step s (item.Sweep bucket)).1
sweep_by s bucket true some past =
    within_rest bucket s (record s { entries = without (is_swept s bucket) s.entries }) _ refl refl refl refl
    (within_left bucket s s (is_swept s bucket)
    (λ b other. all_true (λ (e : Entry). is_swept s bucket e ≡ true → is_in_bucket s.buckets b e ≡ false) s.entries (swept_apart s bucket b other))
    (within_same bucket s))
sweep_by s bucket false some past = record {
  now = refl;
  buckets = refl;
  entries = keep_all (is_swept s bucket) s.entries (all_true (λ (e : Entry). is_swept s bucket e ≡ false) s.entries (none_swept s bucket some (past refl)));
  next_entry = refl;
}

-- STEPS

-- from the state at the item's moment
pub step_local : (s : State) (i : Item) → 0 < s.buckets → Parts s → Local (record s { now = moment_after s.now i }) (home s.buckets i) (step s i).1
step_local s (item.Incoming mark bytes) some parts = incoming_local s mark bytes (read bytes) parts
step_local s (item.Outgoing bytes) some parts = outgoing_local s bytes (read bytes) parts
step_local s (item.Edit edit_command) some parts = edit_still s edit_command
step_local s (item.Set setting) some parts = edited s s.services s.dests _ s.daemons s.pending s.next_dest
step_local s (item.Learn sync_id record_item) some parts =
    learn_by_local s record_item (accept s.daemons.backup sync_id record_item) (λ is. accepted_item s.daemons.backup sync_id record_item is) parts
step_local s (item.BadSync why) some parts = still s
step_local s (item.Tick moment) some parts = still (record s { now = moment })
step_local s (item.Sweep bucket) some parts = sweep_by s bucket (nat_lt bucket s.buckets) some (λ is. ltb-false bucket s.buckets is)
step_local s item.Reap some parts = record { now = refl; buckets = refl; entries = refl; next_entry = refl }
step_local s item.SendSync some parts = edited s s.services s.dests s.settings s.daemons _ s.next_dest

-- WHAT FOLLOWS

local_base : (s : State) (o : Option ℕ) (t : State) → Local s o t → (t.now ≡ s.now) × (t.buckets ≡ s.buckets)
local_base s None t l = (l.now, l.buckets)
local_base s (Some h) t l = (l.now, l.buckets)

-- the moment is the item's, and the number of buckets stays
pub step_base : (s : State) (i : Item) → Parts s → ((step s i).1.now ≡ moment_after s.now i) × ((step s i).1.buckets ≡ s.buckets)
step_base s (item.Incoming mark bytes) parts = local_base s (incoming_bucket s.buckets (head_read (read bytes))) _ (incoming_local s mark bytes (read bytes) parts)
step_base s (item.Outgoing bytes) parts = local_base s (outgoing_bucket s.buckets (head_read (read bytes))) _ (outgoing_local s bytes (read bytes) parts)
step_base s (item.Edit edit_command) parts = local_base s None _ (edit_still s edit_command)
step_base s (item.Set setting) parts = (refl, refl)
step_base s (item.Learn sync_id record_item) parts =
    local_base s (record_bucket s.buckets (key_of_learnt record_item)) _ (learn_by_local s record_item (accept s.daemons.backup sync_id record_item) (λ is. accepted_item s.daemons.backup sync_id record_item is) parts)
step_base s (item.BadSync why) parts = (refl, refl)
step_base s (item.Tick moment) parts = (refl, refl)
step_base s (item.Sweep bucket) parts = (refl, refl)
step_base s item.Reap parts = (refl, refl)
step_base s item.SendSync parts = (refl, refl)

local_stands : (s : State) (o : Option ℕ) (t : State) → Local s o t → Stand s → Stand t
local_stands s None t l stand = record {
  rising = subst AreRising (sym l.entries) stand.rising;
  below = subst (λ n. AllByRecursion (λ (e : Entry). e.id < n) t.entries) (sym l.next_entry) (subst (λ es. AllByRecursion (λ (e : Entry). e.id < s.next_entry) es) (sym l.entries) stand.below);
}
local_stands s (Some h) t l stand = l.stands stand

-- the ids of entries go on rising
pub step_stands : (s : State) (i : Item) → Parts s → Stand s → Stand (step s i).1
step_stands s (item.Incoming mark bytes) parts stand = local_stands s (incoming_bucket s.buckets (head_read (read bytes))) _ (incoming_local s mark bytes (read bytes) parts) stand
step_stands s (item.Outgoing bytes) parts stand = local_stands s (outgoing_bucket s.buckets (head_read (read bytes))) _ (outgoing_local s bytes (read bytes) parts) stand
step_stands s (item.Edit edit_command) parts stand = local_stands s None _ (edit_still s edit_command) stand
step_stands s (item.Set setting) parts stand = record { rising = stand.rising; below = stand.below }
step_stands s (item.Learn sync_id record_item) parts stand =
    local_stands s (record_bucket s.buckets (key_of_learnt record_item)) _ (learn_by_local s record_item (accept s.daemons.backup sync_id record_item) (λ is. accepted_item s.daemons.backup sync_id record_item is) parts) stand
step_stands s (item.BadSync why) parts stand = stand
step_stands s (item.Tick moment) parts stand = record { rising = stand.rising; below = stand.below }
step_stands s (item.Sweep bucket) parts stand = record {
  rising = rising_filter (λ e. not (is_swept s bucket e)) s.entries stand.rising;
  below = all_filter (λ (e : Entry). e.id < s.next_entry) (λ e. not (is_swept s bucket e)) s.entries stand.below;
}
step_stands s item.Reap parts stand = record { rising = stand.rising; below = stand.below }
step_stands s item.SendSync parts stand = record { rising = stand.rising; below = stand.below }

pub run_stands : (s : State) (items : List Item) → Parts s → Stand s → Stand (run s items).1
run_stands s [] parts stand = stand
run_stands s (i ∷ items) parts stand = run_stands (step s i).1 items (step_after s i parts).parts (step_stands s i parts stand)

pub rising_step : (s : State) (i : Item) → IsWellFormed s → IsStrictlyIncreasing (entry_ids s.entries) → IsStrictlyIncreasing (entry_ids (step s i).1.entries)
rising_step s i well rising =
    let parts : Parts s = parts_of s well in
    let stand : Stand s = record { rising = rising_of s.entries rising; below = all_below s parts } in
    rising_from (λ (e : Entry). e.id) (step s i).1.entries (step_stands s i parts stand).rising

pub rising_run : (local : Addr) (buckets : ℕ) (items : List Item) → IsStrictlyIncreasing (entry_ids (run (initial local buckets) items).1.entries)
rising_run local buckets items =
    let begins : State = initial local buckets in
    let stand : Stand begins = record { rising = tt; below = tt } in
    rising_from (λ (e : Entry). e.id) (run begins items).1.entries (run_stands begins items (parts_of begins (initial_well_formed local buckets)) stand).rising

local_others : (s t : State) (o : Option ℕ) (b : ℕ) → o ≢ Some b → Local s o t → entries_of b t ≡ entries_of b s
local_others s t None b other l =
    ap (λ n. filter (is_in_bucket n b) t.entries) l.buckets ∙ ap (λ es. filter (is_in_bucket s.buckets b) es) l.entries
local_others s t (Some h) b other l =
    ap (λ n. filter (is_in_bucket n b) t.entries) l.buckets ∙ l.others b (λ same. other (ap (λ n. Some n) same))

pub others_stay : (s : State) (i : Item) (b : ℕ) → IsWellFormed s → 0 < s.buckets → home s.buckets i ≢ Some b → entries_of b (step s i).1 ≡ entries_of b s
others_stay s i b well some other = local_others (record s { now = moment_after s.now i }) (step s i).1 (home s.buckets i) b other (step_local s i some (parts_of s well))
