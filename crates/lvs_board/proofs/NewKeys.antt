-- An entry that is new after an item has the item's key.
use Rattle.std.proofs.Common.{◌≡◌, ◌==◌, ◌+◌, ◌<◌, ◌≤◌, ℕ, Bool, true, false, cond, not, List, [], ◌∷◌, ◌++◌, Option, Some, None, refl, arith, map, slice_get}
use Rattle.std.specs.List.{AllByRecursion}
use Rattle.lvs_types.specs.declared.addr.DestId.{DestId}
use Rattle.lvs_types.specs.declared.addr.TemplateId.{TemplateId}
use Rattle.lvs_types.specs.declared.service.Service.{Service}
use Rattle.lvs_types.specs.declared.service.Cursor.{Cursor}
use Rattle.lvs_types.specs.declared.dest.Dest.{Dest}
use Rattle.lvs_types.specs.declared.entry.Key.{Key}
use Rattle.lvs_types.specs.declared.entry.Entry.{Entry}
use Rattle.lvs_types.specs.declared.template.Template.{Template}
use Rattle.lvs_types.specs.declared.sync.SyncRecord.{SyncRecord}
use Rattle.lvs_types.specs.declared.reply.Reply.{Reply}
use Rattle.lvs_types.specs.declared.reply.Reply.TheVariants as reply
use Rattle.lvs_types.specs.declared.reply.DropCause.TheVariants as drops
use Rattle.lvs_model.specs.State.{State}
use Rattle.lvs_model.specs.Lookups.{entry_at, has_entry_id, find_service, servers_of, template_at}
use Rattle.lvs_model.specs.Counts.{candidates}
use Rattle.lvs_model.specs.Pick.{pick}
use Rattle.lvs_model.specs.Persistence.{template_key, usable_server}
use Rattle.lvs_model.specs.Packets.{Packet, key_of, may_connect}
use Rattle.lvs_model.specs.Binding.{try_binding, bind_entry, bound_to, put_entry, server_for_entry, template_tried, put_template}
use Rattle.lvs_model.specs.Forwarding.{after_packet}
use Rattle.lvs_model.specs.Scheduling.{enter, connect_to, is_one_packet, new_entry, take_pick, new_template, replace_template, with_cursor, pick_at, picked, schedule, use_template, try_template, persist_by, serve_packet, admit, connect, renewed}
use Rattle.lvs_model.specs.declared.incoming.Standing.{Standing}
use Rattle.lvs_model.specs.declared.incoming.Standing.TheVariants.{Reused, ServerGone, InUse}
use Rattle.lvs_model.specs.Incoming.{end_entry, continue, arrive, take_back, incoming_packet, server_named, standing_of}
use Rattle.lvs_model.specs.Learning.{recorded_key, recorded_entry, add_entry, relearnt, goes_to_recorded, relearn, learn_connection}
use Rattle.lvs_well_formed.proofs.Lists.{all_push, all_weaker, all_filter, all_update}
use Rattle.lvs_well_formed.proofs.Free.{found_of_key}

-- each entry from that id on has the key
abbrev pub AreNew : ℕ → Key → State → Type 0
AreNew next key t = AllByRecursion (λ (e : Entry). next ≤ e.id → e.key ≡ key) t.entries

put_new : (next : ℕ) (key : Key) (v : Entry) (es : List Entry) → v.key ≡ key → AllByRecursion (λ (e : Entry). next ≤ e.id → e.key ≡ key) es → AllByRecursion (λ (e : Entry). next ≤ e.id → e.key ≡ key) (put_entry v es)
put_new next key v es is each = all_update (λ (e : Entry). next ≤ e.id → e.key ≡ key) (has_entry_id v.id) (λ _. v) es (λ x here old from. is) each

push_new : (next : ℕ) (key : Key) (v : Entry) (es : List Entry) → v.key ≡ key → AllByRecursion (λ (e : Entry). next ≤ e.id → e.key ≡ key) es → AllByRecursion (λ (e : Entry). next ≤ e.id → e.key ≡ key) (es ++ v ∷ [])
push_new next key v es is each = all_push (λ (e : Entry). next ≤ e.id → e.key ≡ key) es v each (λ from. is)

leave_new : (next : ℕ) (key : Key) (e : Entry) (t : State) → AreNew next key t → AreNew next key (end_entry e t)
leave_new next key e t each = all_filter (λ (x : Entry). next ≤ x.id → x.key ≡ key) (λ (x : Entry). not (has_entry_id e.id x)) t.entries each

-- where all ids are below it there is none
pub none_new : (next : ℕ) (key : Key) (es : List Entry) → AllByRecursion (λ (e : Entry). e.id < next) es → AllByRecursion (λ (e : Entry). next ≤ e.id → e.key ≡ key) es
none_new next key es below = all_weaker (λ (e : Entry). e.id < next) (λ (e : Entry). next ≤ e.id → e.key ≡ key) es (λ e young from. absurd (omega (arith, young, from))) below

bind_new : (next : ℕ) (key : Key) (t : State) (e : Entry) (o : Option Dest) → e.key ≡ key → AreNew next key t → AreNew next key (bind_entry t e o).1 × ((bind_entry t e o).0.key ≡ key)
bind_new next key t e None is each = (each, is)
bind_new next key t e (Some d) is each = (put_new next key (bound_to d e) t.entries is each, is)

try_new : (next : ℕ) (key : Key) (t : State) (e : Entry) (o : Option DestId) → e.key ≡ key → AreNew next key t → AreNew next key (try_binding t e o).1 × ((try_binding t e o).0.key ≡ key)
try_new next key t e (Some id) is each = (each, is)
try_new next key t e None is each = bind_new next key t e (server_for_entry t.services t.dests e) is each

-- A NEW CONNECTION

abbrev IsOf : Key → Packet → Type 0
IsOf key p = key_of p.proto p.head ≡ key

connect_to_by : (next : ℕ) (key : Key) (one_packet : Bool) (t : State) (p : Packet) (service : Service) (d : Dest) (template : Option TemplateId) (r : Reply) → IsOf key p → AreNew next key t
    → AreNew next key (cond one_packet (r, t) (enter t p (new_entry t p service d template) d)).1
connect_to_by next key true t p service d template r is each = each
connect_to_by next key false t p service d template r is each = push_new next key (new_entry t p service d template) t.entries is each

connect_to_new : (next : ℕ) (key : Key) (t : State) (p : Packet) (service : Service) (d : Dest) (template : Option TemplateId) → IsOf key p → AreNew next key t → AreNew next key (connect_to t p service d template).1
connect_to_new next key t p service d template is each = connect_to_by next key (is_one_packet service p.proto) t p service d template _ is each

take_pick_new : (next : ℕ) (key : Key) (t : State) (p : Packet) (service : Service) (d : Dest) (o : Option ℕ) → IsOf key p → AreNew next key t → AreNew next key (take_pick t p service d o).1
take_pick_new next key t p service d None is each = connect_to_new next key t p service d None is each
take_pick_new next key t p service d (Some seconds) is each =
    let template : Template = new_template t (template_key service p.head.src) seconds d in connect_to_new next key (replace_template template t) p service d (Some template.id) is each

pick_at_new : (next : ℕ) (key : Key) (t : State) (p : Packet) (service : Service) (cursor : Cursor) (o : Option Dest) → IsOf key p → AreNew next key t → AreNew next key (pick_at t p service cursor o).1
pick_at_new next key t p service cursor None is each = each
pick_at_new next key t p service cursor (Some d) is each = take_pick_new next key (with_cursor service.key cursor t) p service d service.persist is each

picked_new : (next : ℕ) (key : Key) (t : State) (p : Packet) (service : Service) (o : Option (ℕ × Cursor)) → IsOf key p → AreNew next key t → AreNew next key (picked t p service o).1
picked_new next key t p service None is each = each
picked_new next key t p service (Some choice) is each = pick_at_new next key t p service choice.1 (slice_get (servers_of service.key t.dests) choice.0) is each

schedule_new : (next : ℕ) (key : Key) (t : State) (p : Packet) (service : Service) → IsOf key p → AreNew next key t → AreNew next key (schedule t p service).1
schedule_new next key t p service is each =
    picked_new next key t p service (pick service.scheduler (candidates service.key t.dests t.entries) (map (λ (d : Dest). d.spec.addr) (servers_of service.key t.dests)) service.cursor p.head.src p.head.dst) is each

use_template_new : (next : ℕ) (key : Key) (t : State) (p : Packet) (service : Service) (seconds : ℕ) (template : Template) (o : Option Dest) → IsOf key p → AreNew next key t → AreNew next key (use_template t p service seconds template o).1
use_template_new next key t p service seconds template None is each = schedule_new next key t p service is each
use_template_new next key t p service seconds template (Some d) is each =
    connect_to_new next key (record t { templates = put_template (renewed t seconds template) t.templates }) p service d (Some template.id) is each

try_template_new : (next : ℕ) (key : Key) (t : State) (p : Packet) (service : Service) (seconds : ℕ) (template : Template) → IsOf key p → AreNew next key t → AreNew next key (try_template t p service seconds template).1
try_template_new next key t p service seconds template is each =
    use_template_new next key (record t { templates = put_template template t.templates }) p service seconds template (usable_server t.settings t.dests template.server) is each

persist_new : (next : ℕ) (key : Key) (t : State) (p : Packet) (service : Service) (seconds : ℕ) (o : Option Template) → IsOf key p → AreNew next key t → AreNew next key (persist_by t p service seconds o).1
persist_new next key t p service seconds None is each = schedule_new next key t p service is each
persist_new next key t p service seconds (Some template) is each = try_template_new next key t p service seconds (template_tried t template template.server) is each

serve_new : (next : ℕ) (key : Key) (t : State) (p : Packet) (service : Service) (o : Option ℕ) → IsOf key p → AreNew next key t → AreNew next key (serve_packet t p service o).1
serve_new next key t p service None is each = schedule_new next key t p service is each
serve_new next key t p service (Some seconds) is each = persist_new next key t p service seconds (template_at (template_key service p.head.src) t.templates) is each

admit_new : (next : ℕ) (key : Key) (t : State) (p : Packet) (o : Option Service) (allowed : Bool) → IsOf key p → AreNew next key t → AreNew next key (admit t p o allowed).1
admit_new next key t p None allowed is each = each
admit_new next key t p (Some service) false is each = each
admit_new next key t p (Some service) true is each = serve_new next key t p service service.persist is each

connect_new : (next : ℕ) (key : Key) (t : State) (p : Packet) → IsOf key p → AreNew next key t → AreNew next key (connect t p).1
connect_new next key t p is each =
    admit_new next key t p (find_service p.proto p.head.dst p.head.dport p.mark t.services) (may_connect t.settings p.proto p.head) is each

-- A CONNECTION THAT IS THERE

either_new : (next : ℕ) (key : Key) (b : Bool) (t u : State) → AreNew next key t → AreNew next key u → AreNew next key (cond b t u)
either_new next key true t u first second = first
either_new next key false t u first second = second

continue_new : (next : ℕ) (key : Key) (t : State) (p : Packet) (e : Entry) (standing : Standing) → IsOf key p → e.key ≡ key → AreNew next key t → AreNew next key (continue t p e standing).1
continue_new next key t p e Reused is own each = connect_new next key (end_entry e t) p is (leave_new next key e t each)
continue_new next key t p e ServerGone is own each = either_new next key (t.settings.expire_nodest == 0) t (end_entry e t) each (leave_new next key e t each)
continue_new next key t p e InUse is own each = put_new next key (after_packet t p e) t.entries own each

arrive_new : (next : ℕ) (key : Key) (s : State) (p : Packet) (o : Option Entry) → IsOf key p → entry_at key s.entries ≡ o → AreNew next key s → AreNew next key (arrive s p o).1
arrive_new next key s p None is found each = connect_new next key s p is each
arrive_new next key s p (Some e) is found each =
    let bound : Entry × State = try_binding s e e.server in
    let tried = try_new next key s e e.server (found_of_key s key e found) each in
    let server = server_named bound.0.server bound.1.dests in
    continue_new next key bound.1 p bound.0 (standing_of bound.1.settings p bound.0 server) is tried.1 tried.0

take_back_new : (next : ℕ) (key : Key) (s : State) (r : Reply) (t : State) → AreNew next key s → AreNew next key t → AreNew next key (take_back s (r, t)).1
take_back_new next key s (reply.Drop drops.TooLong) t old each = old
take_back_new next key s r t old each = each

pub packet_new : (next : ℕ) (s : State) (p : Packet) → AreNew next (key_of p.proto p.head) s → AreNew next (key_of p.proto p.head) (incoming_packet s p).1
packet_new next s p old =
    let key : Key = key_of p.proto p.head in
    let o : Option Entry = entry_at key s.entries in
    let answer : Reply × State = arrive s p o in
    take_back_new next key s answer.0 answer.1 old (arrive_new next key s p o refl refl old)

-- RECORDS THAT ARRIVE

add_new : (next : ℕ) (key : Key) (t : State) (e : Entry) → e.key ≡ key → AreNew next key t → AreNew next key (add_entry t e)
add_new next key t e is each = (try_new next key (record t { entries = t.entries ++ e ∷ []; next_entry = t.next_entry + 1 }) e None is (push_new next key e t.entries is each)).0

relearn_new : (next : ℕ) (s : State) (r : SyncRecord) (e : Entry) (b : Bool) → e.key ≡ recorded_key r → AreNew next (recorded_key r) s → AreNew next (recorded_key r) (relearn s r e b)
relearn_new next s r e true is each =
    let after : Entry = relearnt s r e in
    (try_new next (recorded_key r) (record s { entries = put_entry after s.entries }) after after.server is (put_new next (recorded_key r) after s.entries is each)).0
relearn_new next s r e false is each =
    let left : State = end_entry e s in add_new next (recorded_key r) left (recorded_entry left r) refl (leave_new next (recorded_key r) e s each)

pub connection_new : (next : ℕ) (s : State) (r : SyncRecord) (o : Option Entry) → entry_at (recorded_key r) s.entries ≡ o → AreNew next (recorded_key r) s → AreNew next (recorded_key r) (learn_connection s r o)
connection_new next s r None found each = add_new next (recorded_key r) s (recorded_entry s r) refl each
connection_new next s r (Some e) found each = relearn_new next s r e (goes_to_recorded r e) (found_of_key s (recorded_key r) e found) each
