-- A packet that meets the test of reuse takes up the connection's place, or is too long for its new tunnel.
use Rattle.std.proofs.Common.{◌≡◌, ◌<◌, ℕ, Bool, true, false, cond, not, List, Option, Some, None, Result, refl, sym, subst, ◌∙◌, map, slice_get, nat_lt}
use Rattle.std.proofs.lemmas.Bool.{ltb-true}
use Rattle.std.specs.List.{AllByRecursion, find}
use Rattle.lvs_types.specs.Transport.{transport_of}
use Rattle.lvs_types.specs.declared.addr.Addr.{Addr}
use Rattle.lvs_types.specs.declared.addr.TemplateId.{TemplateId}
use Rattle.lvs_types.specs.declared.head.Head.{Head}
use Rattle.lvs_types.specs.declared.head.Malformed.{Malformed}
use Rattle.lvs_types.specs.declared.service.Proto.{Proto}
use Rattle.lvs_types.specs.declared.service.Method.{Method}
use Rattle.lvs_types.specs.declared.service.Method.TheVariants.{Masq, Tunnel, Direct}
use Rattle.lvs_types.specs.declared.service.Service.{Service}
use Rattle.lvs_types.specs.declared.service.Cursor.{Cursor}
use Rattle.lvs_types.specs.declared.dest.Dest.{Dest}
use Rattle.lvs_types.specs.declared.entry.Key.{Key}
use Rattle.lvs_types.specs.declared.entry.Entry.{Entry}
use Rattle.lvs_types.specs.declared.template.Template.{Template}
use Rattle.lvs_types.specs.declared.item.Item.TheVariants as item
use Rattle.lvs_types.specs.declared.reply.Reply.{Reply}
use Rattle.lvs_types.specs.declared.reply.Reply.TheVariants as reply
use Rattle.lvs_types.specs.declared.reply.DropCause.TheVariants as drops
use Rattle.lvs_model.specs.State.{State}
use Rattle.lvs_model.specs.Step.{step}
use Rattle.lvs_model.specs.Lookups.{entry_at, has_entry_id, find_service, servers_of, template_at}
use Rattle.lvs_model.specs.Counts.{candidates}
use Rattle.lvs_model.specs.Pick.{pick}
use Rattle.lvs_model.specs.Persistence.{template_key, usable_server}
use Rattle.lvs_model.specs.Packets.{Packet, key_of, may_connect}
use Rattle.lvs_model.specs.Binding.{template_tried, put_template}
use Rattle.lvs_model.specs.Forwarding.{forwarded}
use Rattle.lvs_model.specs.Scheduling.{enter, connect_to, is_one_packet, new_entry, take_pick, new_template, replace_template, with_cursor, pick_at, picked, schedule, use_template, try_template, persist_by, serve_packet, admit, connect, renewed, connection_port, connection_port}
use Rattle.lvs_model.specs.Incoming.{end_entry, continue, arrive, take_back, incoming_of, incoming_read}
use Rattle.lvs_model.specs.WellFormed.{IsWellFormed}
use Rattle.lvs_model.proofs.OrderLemmas.{find_none}
use Rattle.lvs_well_formed.proofs.Lists.{all_filtered}
use Rattle.lvs_well_formed.proofs.Parts.{Parts, parts_of}
use Rattle.lvs_well_formed.proofs.Entries.{IsEntryOf}
use Rattle.lvs_well_formed.proofs.Bindings.{IsTried, try_tried}
use Rattle.lvs_laws.proofs.KeptPackets.{stands_by}
use Rattle.lvs_laws.specs.Keeping.{entry_of_id, met, is_reused_by, is_at_removed, packet_of}
use Rattle.lvs_laws.specs.TakingOver.{IsReusingPacketOf, TakesUp}
use Rattle.lvs_laws.proofs.Kept.{below_differs, drawn_below}
use Rattle.lvs_laws.proofs.KeptConnects.{met_same, connect_same}
use Rattle.lvs_laws.proofs.TakeOvers.{by_key}

-- WHEN A PACKET IS TOO LONG

-- only a packet of more than 65,515 bytes is too long for a tunnel
abbrev IsLongOnly : Head → Reply → Type 0
IsLongOnly head (reply.Drop drops.TooLong) = 65515 < head.total
IsLongOnly head _ = Unit {0}

tunnelled : (head : Head) (long : Bool) (r : Reply) → (long ≡ true → 65515 < head.total) → IsLongOnly head r → IsLongOnly head (cond long (reply.Drop drops.TooLong) r)
tunnelled head true r long other = long refl
tunnelled head false r long other = other

forwarded_long : (s : State) (p : Packet) (method : Method) (daddr : Addr) (dport : ℕ) → IsLongOnly p.head (forwarded s p method daddr dport)
forwarded_long s p Masq daddr dport = tt
forwarded_long s p Tunnel daddr dport = tunnelled p.head (nat_lt 65515 p.head.total) _ (ltb-true 65515 p.head.total) tt
forwarded_long s p Direct daddr dport = tt

connect_to_by : (one_packet : Bool) (s : State) (p : Packet) (service : Service) (d : Dest) (template : Option TemplateId)
    → IsLongOnly p.head (cond one_packet (forwarded s p d.spec.method d.spec.addr (connection_port d p.head), s) (enter s p (new_entry s p service d template) d)).0
connect_to_by true s p service d template = forwarded_long s p d.spec.method d.spec.addr (connection_port d p.head)
connect_to_by false s p service d template = forwarded_long s p d.spec.method d.spec.addr (connection_port d p.head)

connect_to_long : (s : State) (p : Packet) (service : Service) (d : Dest) (template : Option TemplateId) → IsLongOnly p.head (connect_to s p service d template).0
connect_to_long s p service d template = connect_to_by (is_one_packet service p.proto) s p service d template

take_pick_long : (s : State) (p : Packet) (service : Service) (d : Dest) (o : Option ℕ) → IsLongOnly p.head (take_pick s p service d o).0
take_pick_long s p service d None = connect_to_long s p service d None
take_pick_long s p service d (Some seconds) =
    let t : Template = new_template s (template_key service p.head.src) seconds d in connect_to_long (replace_template t s) p service d (Some t.id)

pick_at_long : (s : State) (p : Packet) (service : Service) (cursor : Cursor) (o : Option Dest) → IsLongOnly p.head (pick_at s p service cursor o).0
pick_at_long s p service cursor None = tt
pick_at_long s p service cursor (Some d) = take_pick_long (with_cursor service.key cursor s) p service d service.persist

picked_long : (s : State) (p : Packet) (service : Service) (o : Option (ℕ × Cursor)) → IsLongOnly p.head (picked s p service o).0
picked_long s p service None = tt
picked_long s p service (Some choice) = pick_at_long s p service choice.1 (slice_get (servers_of service.key s.dests) choice.0)

schedule_long : (s : State) (p : Packet) (service : Service) → IsLongOnly p.head (schedule s p service).0
schedule_long s p service =
    picked_long s p service (pick service.scheduler (candidates service.key s.dests s.entries) (map (λ (d : Dest). d.spec.addr) (servers_of service.key s.dests)) service.cursor p.head.src p.head.dst)

use_template_long : (s : State) (p : Packet) (service : Service) (seconds : ℕ) (t : Template) (o : Option Dest) → IsLongOnly p.head (use_template s p service seconds t o).0
use_template_long s p service seconds t None = schedule_long s p service
use_template_long s p service seconds t (Some d) = connect_to_long (record s { templates = put_template (renewed s seconds t) s.templates }) p service d (Some t.id)

persist_long : (s : State) (p : Packet) (service : Service) (seconds : ℕ) (o : Option Template) → IsLongOnly p.head (persist_by s p service seconds o).0
persist_long s p service seconds None = schedule_long s p service
persist_long s p service seconds (Some t) =
    let tried : Template = template_tried s t t.server in
    use_template_long (record s { templates = put_template tried s.templates }) p service seconds tried (usable_server s.settings s.dests tried.server)

serve_long : (s : State) (p : Packet) (service : Service) (o : Option ℕ) → IsLongOnly p.head (serve_packet s p service o).0
serve_long s p service None = schedule_long s p service
serve_long s p service (Some seconds) = persist_long s p service seconds (template_at (template_key service p.head.src) s.templates)

admit_long : (s : State) (p : Packet) (o : Option Service) (allowed : Bool) → IsLongOnly p.head (admit s p o allowed).0
admit_long s p None allowed = tt
admit_long s p (Some service) false = tt
admit_long s p (Some service) true = serve_long s p service service.persist

connect_long : (s : State) (p : Packet) → IsLongOnly p.head (connect s p).0
connect_long s p = admit_long s p (find_service p.proto p.head.dst p.head.dport p.mark s.services) (may_connect s.settings p.proto p.head)

-- THE CONNECTION HAS ENDED

not_true : (b : Bool) → not b ≡ true → b ≡ false
not_true true is = absurd cc
not_true false is = refl

none_left : (s : State) (x : Entry) → entry_of_id x.id (end_entry x s).entries ≡ None
none_left s x =
    find_none (has_entry_id x.id) (end_entry x s).entries
    (all_filtered (λ (y : Entry). has_entry_id x.id y ≡ false) (λ (y : Entry). not (has_entry_id x.id y)) s.entries (λ y is. not_true (has_entry_id x.id y) is))

-- a new connection in its place has another id
none_after : (s : State) (p : Packet) (x : Entry) → Parts s → IsEntryOf s x → entry_of_id x.id (connect (end_entry x s) p).1.entries ≡ None
none_after s p x parts found = connect_same (end_entry x s) p x.id (below_differs x.id s.next_entry (drawn_below s x parts found)) ∙ none_left s x

taken_up_by : (s : State) (e : Entry) (head : Head) (r : Reply) (t : State) → IsLongOnly head r → entry_of_id e.id t.entries ≡ None → TakesUp s e head (take_back s (r, t))
taken_up_by s e head (reply.Drop drops.TooLong) t long none = (long, refl)
taken_up_by s e head r t long none = none

arrive_taken_up : (s : State) (p : Packet) (e : Entry) → Parts s → IsEntryOf s e → is_reused_by s e p ≡ true → TakesUp s e p.head (take_back s (arrive s p (Some e)))
arrive_taken_up s p e parts found reuses =
    let bound : Entry × State = met s e in
    let tried : IsTried s e bound.1 bound.0 = try_tried s e e.server found parts in
    let left : State = end_entry bound.0 bound.1 in
    let none : entry_of_id e.id (connect left p).1.entries ≡ None =
    subst (λ id. entry_of_id id (connect left p).1.entries ≡ None) (met_same s e).id (none_after bound.1 p bound.0 tried.after.parts tried.found)
    in
    subst (λ reused. TakesUp s e p.head (take_back s (continue bound.1 p bound.0 (stands_by reused (is_at_removed s e))))) (sym reuses)
    (taken_up_by s e p.head (connect left p).0 (connect left p).1 (connect_long left p) none)

pub step_taken_up : (s : State) (e : Entry) (mark : ℕ) (bytes : List ℕ) (head : Head) (proto : Proto) → IsWellFormed s → entry_of_id e.id s.entries ≡ Some e → IsReusingPacketOf s e mark bytes head proto
    → TakesUp s e head (step s (item.Incoming mark bytes))
step_taken_up s e mark bytes head proto w found reusing =
    let p : Packet = packet_of mark bytes head proto in
    let there : entry_at (key_of proto head) s.entries ≡ Some e = subst (λ (k : Key). entry_at k s.entries ≡ Some e) (sym reusing.packet.key) (by_key s e w found) in
    let arrived : TakesUp s e head (take_back s (arrive s p (entry_at (key_of proto head) s.entries))) =
    subst (λ (o : Option Entry). TakesUp s e head (take_back s (arrive s p o))) (sym there) (arrive_taken_up s p e (parts_of s w) found reusing.reuses)
    in
    let of : TakesUp s e head (incoming_of s mark head bytes (transport_of head)) =
    subst (λ (o : Option Proto). TakesUp s e head (incoming_of s mark head bytes o)) (sym reusing.packet.transport) arrived
    in
    subst (λ (r : Result Head Malformed). TakesUp s e head (incoming_read s mark bytes r)) (sym reusing.packet.reads) of
