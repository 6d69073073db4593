-- Packets, and records that are learnt, leave every server where it is.
use Rattle.std.proofs.Common.{◌==◌, ◌+◌, ℕ, Bool, true, false, cond, List, [], ◌∷◌, ◌++◌, Option, Some, None, Result, Ok, Err, map, slice_get, take}
use Rattle.lvs_types.specs.declared.addr.Addr.{Addr}
use Rattle.lvs_types.specs.declared.addr.DestId.{DestId}
use Rattle.lvs_types.specs.declared.addr.TemplateId.{TemplateId}
use Rattle.lvs_types.specs.declared.head.Head.{Head}
use Rattle.lvs_types.specs.declared.head.Malformed.{Malformed}
use Rattle.lvs_types.specs.declared.service.Proto.{Proto}
use Rattle.lvs_types.specs.declared.service.Service.{Service}
use Rattle.lvs_types.specs.declared.service.Cursor.{Cursor}
use Rattle.lvs_types.specs.declared.dest.Dest.{Dest}
use Rattle.lvs_types.specs.declared.entry.Entry.{Entry}
use Rattle.lvs_types.specs.declared.template.Template.{Template}
use Rattle.lvs_types.specs.declared.sync.SyncItem.{SyncItem}
use Rattle.lvs_types.specs.declared.sync.SyncItem.TheVariants.{V4, V6}
use Rattle.lvs_types.specs.declared.sync.SyncRecord.{SyncRecord}
use Rattle.lvs_types.specs.declared.sync.Learnt.{Learnt}
use Rattle.lvs_types.specs.declared.sync.Learnt.TheVariants as learnt
use Rattle.lvs_types.specs.declared.reply.Reply.{Reply}
use Rattle.lvs_types.specs.declared.reply.Reply.TheVariants as reply
use Rattle.lvs_types.specs.declared.reply.DropCause.TheVariants as drops
use Rattle.lvs_types.specs.Transport.{transport_of}
use Rattle.lvs_model.specs.State.{State}
use Rattle.lvs_model.specs.Lists.{without}
use Rattle.lvs_model.specs.Lookups.{entry_at, template_at, reply_entry, has_entry_id, find_service, servers_of}
use Rattle.lvs_model.specs.Counts.{candidates}
use Rattle.lvs_model.specs.Pick.{pick}
use Rattle.lvs_model.specs.Packets.{Packet, key_of, may_connect}
use Rattle.lvs_model.specs.Binding.{put_entry, put_template, count_bound, count_ended, bound_to, bind_entry, try_binding, server_for_entry, template_tried}
use Rattle.lvs_model.specs.Persistence.{template_key, usable_server}
use Rattle.lvs_model.specs.Scheduling.{new_entry, enter, is_one_packet, connect_to, with_cursor, new_template, replace_template, take_pick, pick_at, picked, schedule, renewed, use_template, persist_by, serve_packet, admit, connect}
use Rattle.lvs_model.specs.declared.incoming.Standing.{Standing}
use Rattle.lvs_model.specs.declared.incoming.Standing.TheVariants.{Reused, ServerGone, InUse}
use Rattle.lvs_model.specs.Incoming.{end_entry, continue, arrive, take_back, incoming_packet, incoming_of, incoming_read, server_named, standing_of}
use Rattle.lvs_model.specs.Outgoing.{answer_out, outgoing_of, outgoing_read}
use Rattle.lvs_model.specs.SyncRules.{accept, is_template_record}
use Rattle.lvs_model.specs.Learning.{recorded_entry, add_entry, relearnt, goes_to_recorded, relearn, learn_connection, recorded_key, recorded_template_key, template_goes_to_recorded, relearn_template, learn_template, learn_item, learn_by, learn}
use Rattle.lvs_well_formed.proofs.AlikeStates.{bound_alike, ended_alike}
use Rattle.lvs_laws.proofs.ReleaseKept.{AreKept, kept_itself, kept_then, kept_alike}

-- every server stays
abbrev pub Keeps : State → State → Type 0
Keeps s t = AreKept s.dests t.dests

keeps_either : (b : Bool) (s t u : State) → Keeps s t → Keeps s u → Keeps s (cond b t u)
keeps_either true s t u first second = first
keeps_either false s t u first second = second

answers_either : (b : Bool) (s : State) (x y : Reply × State) → Keeps s x.1 → Keeps s y.1 → Keeps s (cond b x y).1
answers_either true s x y first second = first
answers_either false s x y first second = second

-- BINDINGS AND ENDS

bind_keeps : (s : State) (e : Entry) (o : Option Dest) → Keeps s (bind_entry s e o).1
bind_keeps s e None = kept_itself s.dests
bind_keeps s e (Some d) = let entries = put_entry (bound_to d e) s.entries in kept_alike s.dests (count_bound d.id entries s.dests) (bound_alike d.id entries s.dests)

try_keeps : (s : State) (e : Entry) (o : Option DestId) → Keeps s (try_binding s e o).1
try_keeps s e (Some id) = kept_itself s.dests
try_keeps s e None = bind_keeps s e (server_for_entry s.services s.dests e)

end_keeps : (s : State) (e : Entry) → Keeps s (end_entry e s)
end_keeps s e = let entries = without (has_entry_id e.id) s.entries in kept_alike s.dests (count_ended e.server entries s.dests) (ended_alike e.server entries s.dests)

-- A NEW CONNECTION

enter_keeps : (s : State) (p : Packet) (e : Entry) (d : Dest) → Keeps s (enter s p e d).1
enter_keeps s p e d = let entries = s.entries ++ e ∷ [] in kept_alike s.dests (count_bound d.id entries s.dests) (bound_alike d.id entries s.dests)

one_packet_by : (b : Bool) (s : State) (r : Reply) (entered : Reply × State) → Keeps s entered.1 → Keeps s (cond b (r, s) entered).1
one_packet_by true s r entered keeps = kept_itself s.dests
one_packet_by false s r entered keeps = keeps

connect_to_keeps : (s : State) (p : Packet) (service : Service) (d : Dest) (template : Option TemplateId) → Keeps s (connect_to s p service d template).1
connect_to_keeps s p service d template =
    let e : Entry = new_entry s p service d template in one_packet_by (is_one_packet service p.proto) s _ (enter s p e d) (enter_keeps s p e d)

take_pick_keeps : (s : State) (p : Packet) (service : Service) (d : Dest) (o : Option ℕ) → Keeps s (take_pick s p service d o).1
take_pick_keeps s p service d None = connect_to_keeps s p service d None
take_pick_keeps s p service d (Some seconds) =
    let t = new_template s (template_key service p.head.src) seconds d in connect_to_keeps (replace_template t s) p service d (Some t.id)

pick_at_keeps : (s : State) (p : Packet) (service : Service) (cursor : Cursor) (o : Option Dest) → Keeps s (pick_at s p service cursor o).1
pick_at_keeps s p service cursor None = kept_itself s.dests
pick_at_keeps s p service cursor (Some d) = take_pick_keeps (with_cursor service.key cursor s) p service d service.persist

picked_keeps : (s : State) (p : Packet) (service : Service) (o : Option (ℕ × Cursor)) → Keeps s (picked s p service o).1
picked_keeps s p service None = kept_itself s.dests
picked_keeps s p service (Some choice) = pick_at_keeps s p service choice.1 (slice_get (servers_of service.key s.dests) choice.0)

schedule_keeps : (s : State) (p : Packet) (service : Service) → Keeps s (schedule s p service).1
schedule_keeps s p service =
    let addrs : List Addr = map (λ (d : Dest). d.spec.addr) (servers_of service.key s.dests) in
    picked_keeps s p service (pick service.scheduler (candidates service.key s.dests s.entries) addrs service.cursor p.head.src p.head.dst)

use_template_keeps : (s : State) (p : Packet) (service : Service) (seconds : ℕ) (t : Template) (o : Option Dest) → Keeps s (use_template s p service seconds t o).1
use_template_keeps s p service seconds t None = schedule_keeps s p service
use_template_keeps s p service seconds t (Some d) =
    let put : State = record s { templates = put_template (renewed s seconds t) s.templates } in connect_to_keeps put p service d (Some t.id)

persist_keeps : (s : State) (p : Packet) (service : Service) (seconds : ℕ) (o : Option Template) → Keeps s (persist_by s p service seconds o).1
persist_keeps s p service seconds None = schedule_keeps s p service
persist_keeps s p service seconds (Some t) =
    let tried : Template = template_tried s t t.server in
    let put : State = record s { templates = put_template tried s.templates } in
    use_template_keeps put p service seconds tried (usable_server s.settings s.dests tried.server)

serve_keeps : (s : State) (p : Packet) (service : Service) (o : Option ℕ) → Keeps s (serve_packet s p service o).1
serve_keeps s p service None = schedule_keeps s p service
serve_keeps s p service (Some seconds) = persist_keeps s p service seconds (template_at (template_key service p.head.src) s.templates)

admit_keeps : (s : State) (p : Packet) (o : Option Service) (b : Bool) → Keeps s (admit s p o b).1
admit_keeps s p None b = kept_itself s.dests
admit_keeps s p (Some service) false = kept_itself s.dests
admit_keeps s p (Some service) true = serve_keeps s p service service.persist

connect_keeps : (s : State) (p : Packet) → Keeps s (connect s p).1
connect_keeps s p = admit_keeps s p (find_service p.proto p.head.dst p.head.dport p.mark s.services) (may_connect s.settings p.proto p.head)

-- A PACKET

continue_keeps : (s : State) (p : Packet) (e : Entry) (standing : Standing) → Keeps s (continue s p e standing).1
continue_keeps s p e Reused = kept_then s.dests (end_entry e s).dests (continue s p e Reused).1.dests (end_keeps s e) (connect_keeps (end_entry e s) p)
continue_keeps s p e ServerGone = keeps_either (s.settings.expire_nodest == 0) s s (end_entry e s) (kept_itself s.dests) (end_keeps s e)
continue_keeps s p e InUse = kept_itself s.dests

arrive_keeps : (s : State) (p : Packet) (o : Option Entry) → Keeps s (arrive s p o).1
arrive_keeps s p None = connect_keeps s p
arrive_keeps s p (Some e) =
    let bound : Entry × State = try_binding s e e.server in
    let server = server_named bound.0.server bound.1.dests in
    kept_then s.dests bound.1.dests (arrive s p (Some e)).1.dests (try_keeps s e e.server) (continue_keeps bound.1 p bound.0 (standing_of bound.1.settings p bound.0 server))

take_back_keeps : (s : State) (r : Reply) (t : State) → Keeps s t → Keeps s (take_back s (r, t)).1
take_back_keeps s (reply.Drop drops.TooLong) t keeps = kept_itself s.dests
take_back_keeps s r t keeps = keeps

packet_keeps : (s : State) (p : Packet) → Keeps s (incoming_packet s p).1
packet_keeps s p =
    let answer : Reply × State = arrive s p (entry_at (key_of p.proto p.head) s.entries) in
    take_back_keeps s answer.0 answer.1 (arrive_keeps s p (entry_at (key_of p.proto p.head) s.entries))

incoming_of_keeps : (s : State) (mark : ℕ) (head : Head) (bytes : List ℕ) (o : Option Proto) → Keeps s (incoming_of s mark head bytes o).1
incoming_of_keeps s mark head bytes None = kept_itself s.dests
incoming_of_keeps s mark head bytes (Some proto) = packet_keeps s (record { mark = mark; proto = proto; head = head; bytes = take head.total bytes })

pub incoming_keeps : (s : State) (mark : ℕ) (bytes : List ℕ) (r : Result Head Malformed) → Keeps s (incoming_read s mark bytes r).1
incoming_keeps s mark bytes (Err why) = kept_itself s.dests
incoming_keeps s mark bytes (Ok head) = incoming_of_keeps s mark head bytes (transport_of head)

answer_keeps : (s : State) (head : Head) (bytes : List ℕ) (o : Option Entry) → Keeps s (answer_out s head bytes o).1
answer_keeps s head bytes None = kept_itself s.dests
answer_keeps s head bytes (Some e) = kept_itself s.dests

outgoing_of_keeps : (s : State) (head : Head) (bytes : List ℕ) (o : Option Proto) → Keeps s (outgoing_of s head bytes o).1
outgoing_of_keeps s head bytes None = kept_itself s.dests
outgoing_of_keeps s head bytes (Some proto) = answer_keeps s head (take head.total bytes) (reply_entry proto head.src head.sport head.dst head.dport s.entries)

pub outgoing_keeps : (s : State) (bytes : List ℕ) (r : Result Head Malformed) → Keeps s (outgoing_read s bytes r).1
outgoing_keeps s bytes (Err why) = kept_itself s.dests
outgoing_keeps s bytes (Ok head) = outgoing_of_keeps s head bytes (transport_of head)

-- A RECORD

add_entry_keeps : (s : State) (e : Entry) → Keeps s (add_entry s e)
add_entry_keeps s e = let added : State = record s { entries = s.entries ++ e ∷ []; next_entry = s.next_entry + 1 } in try_keeps added e None

relearn_keeps : (s : State) (r : SyncRecord) (e : Entry) (b : Bool) → Keeps s (relearn s r e b)
relearn_keeps s r e true =
    let after : Entry = relearnt s r e in let put : State = record s { entries = put_entry after s.entries } in try_keeps put after after.server
relearn_keeps s r e false =
    let left : State = end_entry e s in kept_then s.dests left.dests (relearn s r e false).dests (end_keeps s e) (add_entry_keeps left (recorded_entry left r))

learn_connection_keeps : (s : State) (r : SyncRecord) (o : Option Entry) → Keeps s (learn_connection s r o)
learn_connection_keeps s r None = add_entry_keeps s (recorded_entry s r)
learn_connection_keeps s r (Some e) = relearn_keeps s r e (goes_to_recorded r e)

relearn_template_keeps : (s : State) (r : SyncRecord) (t : Template) (b : Bool) → Keeps s (relearn_template s r t b)
relearn_template_keeps s r t true = kept_itself s.dests
relearn_template_keeps s r t false = kept_itself s.dests

learn_template_keeps : (s : State) (r : SyncRecord) (o : Option Template) → Keeps s (learn_template s r o)
learn_template_keeps s r None = kept_itself s.dests
learn_template_keeps s r (Some t) = relearn_template_keeps s r t (template_goes_to_recorded r t)

learn_item_keeps : (s : State) (i : SyncItem) → Keeps s (learn_item s i)
learn_item_keeps s V6 = kept_itself s.dests
learn_item_keeps s (V4 r) =
    keeps_either (is_template_record r) s (learn_template s r (template_at (recorded_template_key r) s.templates)) (learn_connection s r (entry_at (recorded_key r) s.entries))
    (learn_template_keeps s r (template_at (recorded_template_key r) s.templates)) (learn_connection_keeps s r (entry_at (recorded_key r) s.entries))

learn_by_keeps : (s : State) (i : SyncItem) (a : Learnt) → Keeps s (learn_by s i a).1
learn_by_keeps s i learnt.Accepted = learn_item_keeps s i
learn_by_keeps s i learnt.Off = kept_itself s.dests
learn_by_keeps s i learnt.OtherId = kept_itself s.dests
learn_by_keeps s i learnt.V6 = kept_itself s.dests
learn_by_keeps s i learnt.BadProto = kept_itself s.dests
learn_by_keeps s i learnt.BadState = kept_itself s.dests
learn_by_keeps s i learnt.BadMethod = kept_itself s.dests

pub learn_keeps : (s : State) (sync_id : ℕ) (i : SyncItem) → Keeps s (learn s sync_id i).1
learn_keeps s sync_id i = learn_by_keeps s i (accept s.daemons.backup sync_id i)
