-- Packets, and records that are learnt, leave tables that words can say.
use Rattle.std.proofs.Common.{◌==◌, ◌+◌, ℕ, Bool, true, false, cond, List, [], ◌∷◌, ◌++◌, Option, Some, None, Result, Ok, Err, map, slice_get, take}
use Rattle.lvs_types.specs.declared.addr.Addr.{Addr}
use Rattle.lvs_types.specs.declared.addr.DestId.{DestId}
use Rattle.lvs_types.specs.declared.addr.TemplateId.{TemplateId}
use Rattle.lvs_types.specs.declared.head.Head.{Head}
use Rattle.lvs_types.specs.declared.head.Malformed.{Malformed}
use Rattle.lvs_types.specs.declared.service.Proto.{Proto}
use Rattle.lvs_types.specs.declared.service.ServiceKey.{ServiceKey}
use Rattle.lvs_types.specs.declared.service.Service.{Service}
use Rattle.lvs_types.specs.declared.service.Cursor.{Cursor}
use Rattle.lvs_types.specs.declared.dest.Dest.{Dest}
use Rattle.lvs_types.specs.declared.entry.Entry.{Entry}
use Rattle.lvs_types.specs.declared.template.Template.{Template}
use Rattle.lvs_types.specs.declared.sync.SyncItem.{SyncItem}
use Rattle.lvs_types.specs.declared.sync.SyncItem.TheVariants.{V4, V6}
use Rattle.lvs_types.specs.declared.sync.SyncRecord.{SyncRecord}
use Rattle.lvs_types.specs.declared.sync.Learnt.{Learnt}
use Rattle.lvs_types.specs.declared.sync.Learnt.TheVariants as learnt
use Rattle.lvs_types.specs.declared.reply.Reply.{Reply}
use Rattle.lvs_types.specs.declared.reply.Reply.TheVariants as reply
use Rattle.lvs_types.specs.declared.reply.DropCause.TheVariants as drops
use Rattle.lvs_types.specs.Transport.{transport_of}
use Rattle.lvs_model.specs.State.{State}
use Rattle.lvs_model.specs.Lists.{without}
use Rattle.lvs_model.specs.Lookups.{entry_at, template_at, reply_entry, has_entry_id, find_service, servers_of, has_service_key, has_dest_id}
use Rattle.lvs_model.specs.Counts.{candidates}
use Rattle.lvs_model.specs.Pick.{pick}
use Rattle.lvs_model.specs.Packets.{Packet, key_of, may_connect}
use Rattle.lvs_model.specs.Binding.{put_entry, put_template, count_bound, count_ended, bound_to, bind_entry, try_binding, server_for_entry, template_tried}
use Rattle.lvs_model.specs.Persistence.{template_key, usable_server}
use Rattle.lvs_model.specs.Scheduling.{new_entry, enter, is_one_packet, connect_to, with_cursor, new_template, replace_template, take_pick, pick_at, picked, schedule, renewed, use_template, persist_by, serve_packet, admit, connect}
use Rattle.lvs_model.specs.declared.incoming.Standing.{Standing}
use Rattle.lvs_model.specs.declared.incoming.Standing.TheVariants.{Reused, ServerGone, InUse}
use Rattle.lvs_model.specs.Incoming.{end_entry, continue, arrive, take_back, incoming_packet, incoming_of, incoming_read, server_named, standing_of}
use Rattle.lvs_model.specs.Outgoing.{answer_out, outgoing_of, outgoing_read}
use Rattle.lvs_model.specs.SyncRules.{accept, is_template_record}
use Rattle.lvs_model.specs.Learning.{recorded_entry, add_entry, relearnt, goes_to_recorded, relearn, learn_connection, recorded_key, recorded_template_key, template_goes_to_recorded, relearn_template, learn_template, learn_item, learn_by, learn}
use Rattle.lvs_well_formed.proofs.Lists.{all_update}
use Rattle.lvs_listing.specs.Savable.{IsSayableService}
use Rattle.lvs_laws.specs.Saying.{IsSayableDest, AreSayableTables, HasSayableTables}

-- tables that words can say stay such
abbrev pub Keeps : State → State → Type 0
Keeps s t = HasSayableTables s → HasSayableTables t

pub keeps_itself : (s : State) → Keeps s s
keeps_itself s = λ are. are

-- a scheduler's cursor isn't said
pub with_cursor_sayable : (service : Service) (cursor : Cursor) → IsSayableService service → IsSayableService (record service { cursor = cursor })
with_cursor_sayable service cursor is = record { key = is.key; persistence = is.persistence; one_packet = is.one_packet }

cursor_keeps : (s : State) (key : ServiceKey) (cursor : Cursor) → Keeps s (with_cursor key cursor s)
cursor_keeps s key cursor are = record {
  services = all_update IsSayableService (has_service_key key) (λ (service : Service). record service { cursor = cursor }) s.services (λ service here is. with_cursor_sayable service cursor is) are.services;
  servers = are.servers;
}

-- nor is what overloads a server

bound_keeps : (id : DestId) (es : List Entry) (services : List Service) (ds : List Dest) → AreSayableTables services ds → AreSayableTables services (count_bound id es ds)
bound_keeps id es services ds are = record { services = are.services; servers = all_update IsSayableDest (has_dest_id id) _ ds (λ d here is. is) are.servers }

ended_keeps : (o : Option DestId) (es : List Entry) (services : List Service) (ds : List Dest) → AreSayableTables services ds → AreSayableTables services (count_ended o es ds)
ended_keeps None es services ds are = are
ended_keeps (Some id) es services ds are = record { services = are.services; servers = all_update IsSayableDest (has_dest_id id) _ ds (λ d here is. is) are.servers }

keeps_either : (b : Bool) (s t u : State) → Keeps s t → Keeps s u → Keeps s (cond b t u)
keeps_either true s t u first second = first
keeps_either false s t u first second = second

answers_either : (b : Bool) (s : State) (x y : Reply × State) → Keeps s x.1 → Keeps s y.1 → Keeps s (cond b x y).1
answers_either true s x y first second = first
answers_either false s x y first second = second

-- BINDINGS AND ENDS

bind_keeps : (s : State) (e : Entry) (o : Option Dest) → Keeps s (bind_entry s e o).1
bind_keeps s e None = keeps_itself s
bind_keeps s e (Some d) = let entries = put_entry (bound_to d e) s.entries in bound_keeps d.id entries s.services s.dests

try_keeps : (s : State) (e : Entry) (o : Option DestId) → Keeps s (try_binding s e o).1
try_keeps s e (Some id) = keeps_itself s
try_keeps s e None = bind_keeps s e (server_for_entry s.services s.dests e)

end_keeps : (s : State) (e : Entry) → Keeps s (end_entry e s)
end_keeps s e = let entries = without (has_entry_id e.id) s.entries in ended_keeps e.server entries s.services s.dests

-- A NEW CONNECTION

enter_keeps : (s : State) (p : Packet) (e : Entry) (d : Dest) → Keeps s (enter s p e d).1
enter_keeps s p e d = let entries = s.entries ++ e ∷ [] in bound_keeps d.id entries s.services s.dests

one_packet_by : (b : Bool) (s : State) (r : Reply) (entered : Reply × State) → Keeps s entered.1 → Keeps s (cond b (r, s) entered).1
one_packet_by true s r entered keeps = keeps_itself s
one_packet_by false s r entered keeps = keeps

connect_to_keeps : (s : State) (p : Packet) (service : Service) (d : Dest) (template : Option TemplateId) → Keeps s (connect_to s p service d template).1
connect_to_keeps s p service d template =
    let e : Entry = new_entry s p service d template in one_packet_by (is_one_packet service p.proto) s _ (enter s p e d) (enter_keeps s p e d)

take_pick_keeps : (s : State) (p : Packet) (service : Service) (d : Dest) (o : Option ℕ) → Keeps s (take_pick s p service d o).1
take_pick_keeps s p service d None = connect_to_keeps s p service d None
take_pick_keeps s p service d (Some seconds) =
    let t = new_template s (template_key service p.head.src) seconds d in connect_to_keeps (replace_template t s) p service d (Some t.id)

pick_at_keeps : (s : State) (p : Packet) (service : Service) (cursor : Cursor) (o : Option Dest) → Keeps s (pick_at s p service cursor o).1
pick_at_keeps s p service cursor None = keeps_itself s
pick_at_keeps s p service cursor (Some d) = λ are. take_pick_keeps (with_cursor service.key cursor s) p service d service.persist (cursor_keeps s service.key cursor are)

picked_keeps : (s : State) (p : Packet) (service : Service) (o : Option (ℕ × Cursor)) → Keeps s (picked s p service o).1
picked_keeps s p service None = keeps_itself s
picked_keeps s p service (Some choice) = pick_at_keeps s p service choice.1 (slice_get (servers_of service.key s.dests) choice.0)

schedule_keeps : (s : State) (p : Packet) (service : Service) → Keeps s (schedule s p service).1
schedule_keeps s p service =
    let addrs : List Addr = map (λ (d : Dest). d.spec.addr) (servers_of service.key s.dests) in
    picked_keeps s p service (pick service.scheduler (candidates service.key s.dests s.entries) addrs service.cursor p.head.src p.head.dst)

use_template_keeps : (s : State) (p : Packet) (service : Service) (seconds : ℕ) (t : Template) (o : Option Dest) → Keeps s (use_template s p service seconds t o).1
use_template_keeps s p service seconds t None = schedule_keeps s p service
use_template_keeps s p service seconds t (Some d) =
    let put : State = record s { templates = put_template (renewed s seconds t) s.templates } in connect_to_keeps put p service d (Some t.id)

persist_keeps : (s : State) (p : Packet) (service : Service) (seconds : ℕ) (o : Option Template) → Keeps s (persist_by s p service seconds o).1
persist_keeps s p service seconds None = schedule_keeps s p service
persist_keeps s p service seconds (Some t) =
    let tried : Template = template_tried s t t.server in
    let put : State = record s { templates = put_template tried s.templates } in
    use_template_keeps put p service seconds tried (usable_server s.settings s.dests tried.server)

serve_keeps : (s : State) (p : Packet) (service : Service) (o : Option ℕ) → Keeps s (serve_packet s p service o).1
serve_keeps s p service None = schedule_keeps s p service
serve_keeps s p service (Some seconds) = persist_keeps s p service seconds (template_at (template_key service p.head.src) s.templates)

admit_keeps : (s : State) (p : Packet) (o : Option Service) (b : Bool) → Keeps s (admit s p o b).1
admit_keeps s p None b = keeps_itself s
admit_keeps s p (Some service) false = keeps_itself s
admit_keeps s p (Some service) true = serve_keeps s p service service.persist

connect_keeps : (s : State) (p : Packet) → Keeps s (connect s p).1
connect_keeps s p = admit_keeps s p (find_service p.proto p.head.dst p.head.dport p.mark s.services) (may_connect s.settings p.proto p.head)

-- A PACKET

continue_keeps : (s : State) (p : Packet) (e : Entry) (standing : Standing) → Keeps s (continue s p e standing).1
continue_keeps s p e Reused = λ are. connect_keeps (end_entry e s) p (end_keeps s e are)
continue_keeps s p e ServerGone = keeps_either (s.settings.expire_nodest == 0) s s (end_entry e s) (keeps_itself s) (end_keeps s e)
continue_keeps s p e InUse = keeps_itself s

arrive_keeps : (s : State) (p : Packet) (o : Option Entry) → Keeps s (arrive s p o).1
arrive_keeps s p None = connect_keeps s p
arrive_keeps s p (Some e) =
    let bound : Entry × State = try_binding s e e.server in
    let server = server_named bound.0.server bound.1.dests in
    λ are. continue_keeps bound.1 p bound.0 (standing_of bound.1.settings p bound.0 server) (try_keeps s e e.server are)

take_back_keeps : (s : State) (r : Reply) (t : State) → Keeps s t → Keeps s (take_back s (r, t)).1
take_back_keeps s (reply.Drop drops.TooLong) t keeps = keeps_itself s
take_back_keeps s r t keeps = keeps

packet_keeps : (s : State) (p : Packet) → Keeps s (incoming_packet s p).1
packet_keeps s p =
    let answer : Reply × State = arrive s p (entry_at (key_of p.proto p.head) s.entries) in
    take_back_keeps s answer.0 answer.1 (arrive_keeps s p (entry_at (key_of p.proto p.head) s.entries))

incoming_of_keeps : (s : State) (mark : ℕ) (head : Head) (bytes : List ℕ) (o : Option Proto) → Keeps s (incoming_of s mark head bytes o).1
incoming_of_keeps s mark head bytes None = keeps_itself s
incoming_of_keeps s mark head bytes (Some proto) = packet_keeps s (record { mark = mark; proto = proto; head = head; bytes = take head.total bytes })

pub incoming_keeps : (s : State) (mark : ℕ) (bytes : List ℕ) (r : Result Head Malformed) → Keeps s (incoming_read s mark bytes r).1
incoming_keeps s mark bytes (Err why) = keeps_itself s
incoming_keeps s mark bytes (Ok head) = incoming_of_keeps s mark head bytes (transport_of head)

answer_keeps : (s : State) (head : Head) (bytes : List ℕ) (o : Option Entry) → Keeps s (answer_out s head bytes o).1
answer_keeps s head bytes None = keeps_itself s
answer_keeps s head bytes (Some e) = keeps_itself s

outgoing_of_keeps : (s : State) (head : Head) (bytes : List ℕ) (o : Option Proto) → Keeps s (outgoing_of s head bytes o).1
outgoing_of_keeps s head bytes None = keeps_itself s
outgoing_of_keeps s head bytes (Some proto) = answer_keeps s head (take head.total bytes) (reply_entry proto head.src head.sport head.dst head.dport s.entries)

pub outgoing_keeps : (s : State) (bytes : List ℕ) (r : Result Head Malformed) → Keeps s (outgoing_read s bytes r).1
outgoing_keeps s bytes (Err why) = keeps_itself s
outgoing_keeps s bytes (Ok head) = outgoing_of_keeps s head bytes (transport_of head)

-- A RECORD

add_entry_keeps : (s : State) (e : Entry) → Keeps s (add_entry s e)
add_entry_keeps s e = let added : State = record s { entries = s.entries ++ e ∷ []; next_entry = s.next_entry + 1 } in try_keeps added e None

relearn_keeps : (s : State) (r : SyncRecord) (e : Entry) (b : Bool) → Keeps s (relearn s r e b)
relearn_keeps s r e true =
    let after : Entry = relearnt s r e in let put : State = record s { entries = put_entry after s.entries } in try_keeps put after after.server
relearn_keeps s r e false =
    let left : State = end_entry e s in λ are. add_entry_keeps left (recorded_entry left r) (end_keeps s e are)

learn_connection_keeps : (s : State) (r : SyncRecord) (o : Option Entry) → Keeps s (learn_connection s r o)
learn_connection_keeps s r None = add_entry_keeps s (recorded_entry s r)
learn_connection_keeps s r (Some e) = relearn_keeps s r e (goes_to_recorded r e)

relearn_template_keeps : (s : State) (r : SyncRecord) (t : Template) (b : Bool) → Keeps s (relearn_template s r t b)
relearn_template_keeps s r t true = keeps_itself s
relearn_template_keeps s r t false = keeps_itself s

learn_template_keeps : (s : State) (r : SyncRecord) (o : Option Template) → Keeps s (learn_template s r o)
learn_template_keeps s r None = keeps_itself s
learn_template_keeps s r (Some t) = relearn_template_keeps s r t (template_goes_to_recorded r t)

learn_item_keeps : (s : State) (i : SyncItem) → Keeps s (learn_item s i)
learn_item_keeps s V6 = keeps_itself s
learn_item_keeps s (V4 r) =
    keeps_either (is_template_record r) s (learn_template s r (template_at (recorded_template_key r) s.templates)) (learn_connection s r (entry_at (recorded_key r) s.entries))
    (learn_template_keeps s r (template_at (recorded_template_key r) s.templates)) (learn_connection_keeps s r (entry_at (recorded_key r) s.entries))

learn_by_keeps : (s : State) (i : SyncItem) (a : Learnt) → Keeps s (learn_by s i a).1
learn_by_keeps s i learnt.Accepted = learn_item_keeps s i
learn_by_keeps s i learnt.Off = keeps_itself s
learn_by_keeps s i learnt.OtherId = keeps_itself s
learn_by_keeps s i learnt.V6 = keeps_itself s
learn_by_keeps s i learnt.BadProto = keeps_itself s
learn_by_keeps s i learnt.BadState = keeps_itself s
learn_by_keeps s i learnt.BadMethod = keeps_itself s

pub learn_keeps : (s : State) (sync_id : ℕ) (i : SyncItem) → Keeps s (learn s sync_id i).1
learn_keeps s sync_id i = learn_by_keeps s i (accept s.daemons.backup sync_id i)
