-- What a packet that is malformed, too long or passed on leaves.
use Rattle.std.proofs.Common.{◌≡◌, ℕ, Bool, true, false, cond, List, Option, Some, None, Result, Ok, Err, refl, subst, take, map, slice_get}
use Rattle.lvs_types.specs.declared.addr.Addr.{Addr}
use Rattle.lvs_types.specs.declared.addr.TemplateId.{TemplateId}
use Rattle.lvs_types.specs.declared.head.Head.{Head}
use Rattle.lvs_types.specs.declared.head.Malformed.{Malformed}
use Rattle.lvs_types.specs.declared.service.Method.{Method}
use Rattle.lvs_types.specs.declared.service.Proto.{Proto}
use Rattle.lvs_types.specs.declared.service.Service.{Service}
use Rattle.lvs_types.specs.declared.service.Cursor.{Cursor}
use Rattle.lvs_types.specs.declared.dest.Dest.{Dest}
use Rattle.lvs_types.specs.declared.entry.Entry.{Entry}
use Rattle.lvs_types.specs.declared.template.Template.{Template}
use Rattle.lvs_types.specs.declared.reply.Reply.{Reply}
use Rattle.lvs_types.specs.declared.reply.Reply.TheVariants as reply
use Rattle.lvs_types.specs.declared.reply.DropCause.TheVariants as drops
use Rattle.lvs_types.specs.Transport.{transport_of}
use Rattle.lvs_model.specs.State.{State}
use Rattle.lvs_model.specs.Reading.{read}
use Rattle.lvs_model.specs.Rewriting.{is_too_long, bytes_for}
use Rattle.lvs_model.specs.Counts.{candidates}
use Rattle.lvs_model.specs.Pick.{pick}
use Rattle.lvs_model.specs.Lookups.{find_service, servers_of, template_at, entry_at, reply_entry}
use Rattle.lvs_model.specs.Packets.{Packet, key_of, may_connect}
use Rattle.lvs_model.specs.Binding.{try_binding, put_template, template_tried}
use Rattle.lvs_model.specs.Persistence.{template_key, usable_server}
use Rattle.lvs_model.specs.Forwarding.{forwarded, forward_known}
use Rattle.lvs_model.specs.Scheduling.{connect_to, enter, new_entry, connection_port, is_one_packet, with_cursor, new_template, replace_template, take_pick, pick_at, picked, schedule, renewed, use_template, persist_by, serve_packet, admit, connect}
use Rattle.lvs_model.specs.declared.incoming.Standing.{Standing}
use Rattle.lvs_model.specs.declared.incoming.Standing.TheVariants.{Reused, ServerGone, InUse}
use Rattle.lvs_model.specs.Incoming.{end_entry, gone, continue, arrive, take_back, incoming_packet, incoming_of, incoming_read, incoming, server_named, standing_of}
use Rattle.lvs_model.specs.Outgoing.{answer_out, outgoing_of, outgoing_read, outgoing}
use Rattle.lvs_well_formed.specs.Passing.{entry_of_head, entry_of_read, entry_of_packet, passed}

-- an answer to a packet of a connection, or to one that a service takes
abbrev pub is_served : Reply → Bool
is_served (reply.Forward method addr bytes) = true
is_served (reply.Drop drops.TooLong) = true
is_served (reply.Drop drops.NoDest) = true
is_served (reply.Drop drops.Gone) = true
is_served _ = false

-- neither passed on nor malformed, or passed on with this state left
pub record Leaves (left : State) (answer : Reply × State) : Type 0 where
  pub pass : answer.0 ≡ reply.Pass → answer.1 ≡ left
  pub malformed : (why : Malformed) → answer.0 ≡ reply.Drop (drops.Malformed why) → ⊥

pub serves : (left : State) (answer : Reply × State) → is_served answer.0 ≡ true → Leaves left answer
serves left answer is = record {
  pass = λ same. let wrong : false ≡ true = subst (λ r. is_served r ≡ true) same is in absurd cc;
  malformed = λ why same. let wrong : false ≡ true = subst (λ r. is_served r ≡ true) same is in absurd cc;
}

forward_by : (b : Bool) (method : Method) (addr : Addr) (bytes : List ℕ) → is_served (cond b (reply.Drop drops.TooLong) (reply.Forward method addr bytes)) ≡ true
forward_by true method addr bytes = refl
forward_by false method addr bytes = refl

forwarded_served : (s : State) (p : Packet) (method : Method) (daddr : Addr) (dport : ℕ) → is_served (forwarded s p method daddr dport) ≡ true
forwarded_served s p method daddr dport = forward_by (is_too_long p.head method) method daddr (bytes_for s.local p.head p.bytes method daddr dport)

connect_by : (b : Bool) (s t : State) (r q : Reply) → is_served r ≡ true → is_served q ≡ true → is_served (cond {A = Reply × State} b (r, s) (q, t)).0 ≡ true
connect_by true s t r q first second = first
connect_by false s t r q first second = second

-- A PACKET THAT A SERVICE TAKES

connect_to_served : (s : State) (p : Packet) (service : Service) (d : Dest) (template : Option TemplateId) → is_served (connect_to s p service d template).0 ≡ true
connect_to_served s p service d template =
    let e : Entry = new_entry s p service d template in
    let entered : Reply × State = enter s p e d in
    connect_by (is_one_packet service p.proto) s entered.1 (forwarded s p d.spec.method d.spec.addr (connection_port d p.head)) entered.0
    (forwarded_served s p d.spec.method d.spec.addr (connection_port d p.head)) (forwarded_served s p e.method e.daddr e.dport)

take_pick_served : (s : State) (p : Packet) (service : Service) (d : Dest) (o : Option ℕ) → is_served (take_pick s p service d o).0 ≡ true
take_pick_served s p service d None = connect_to_served s p service d None
take_pick_served s p service d (Some seconds) =
    let t = new_template s (template_key service p.head.src) seconds d in connect_to_served (replace_template t s) p service d (Some t.id)

pick_at_served : (s : State) (p : Packet) (service : Service) (cursor : Cursor) (o : Option Dest) → is_served (pick_at s p service cursor o).0 ≡ true
pick_at_served s p service cursor None = refl
pick_at_served s p service cursor (Some d) = take_pick_served (with_cursor service.key cursor s) p service d service.persist

picked_served : (s : State) (p : Packet) (service : Service) (o : Option (ℕ × Cursor)) → is_served (picked s p service o).0 ≡ true
picked_served s p service None = refl
picked_served s p service (Some choice) = pick_at_served s p service choice.1 (slice_get (servers_of service.key s.dests) choice.0)

schedule_served : (s : State) (p : Packet) (service : Service) → is_served (schedule s p service).0 ≡ true
schedule_served s p service =
    picked_served s p service (pick service.scheduler (candidates service.key s.dests s.entries) (map (λ (d : Dest). d.spec.addr) (servers_of service.key s.dests)) service.cursor p.head.src p.head.dst)

use_template_served : (s : State) (p : Packet) (service : Service) (seconds : ℕ) (t : Template) (o : Option Dest) → is_served (use_template s p service seconds t o).0 ≡ true
use_template_served s p service seconds t None = schedule_served s p service
use_template_served s p service seconds t (Some d) = connect_to_served (record s { templates = put_template (renewed s seconds t) s.templates }) p service d (Some t.id)

persist_served : (s : State) (p : Packet) (service : Service) (seconds : ℕ) (o : Option Template) → is_served (persist_by s p service seconds o).0 ≡ true
persist_served s p service seconds None = schedule_served s p service
persist_served s p service seconds (Some t) =
    let tried : Template = template_tried s t t.server in
    use_template_served (record s { templates = put_template tried s.templates }) p service seconds tried (usable_server s.settings s.dests tried.server)

serve_served : (s : State) (p : Packet) (service : Service) (o : Option ℕ) → is_served (serve_packet s p service o).0 ≡ true
serve_served s p service None = schedule_served s p service
serve_served s p service (Some seconds) = persist_served s p service seconds (template_at (template_key service p.head.src) s.templates)

-- A PACKET

pub passes : (s : State) → Leaves s (reply.Pass, s)
passes s = record { pass = λ _. refl; malformed = λ why is. absurd cc }

admit_leaves : (s : State) (p : Packet) (o : Option Service) (b : Bool) → Leaves s (admit s p o b)
admit_leaves s p None b = passes s
admit_leaves s p (Some service) false = passes s
admit_leaves s p (Some service) true = serves s (serve_packet s p service service.persist) (serve_served s p service service.persist)

pub connect_leaves : (s : State) (p : Packet) → Leaves s (connect s p)
connect_leaves s p = admit_leaves s p (find_service p.proto p.head.dst p.head.dport p.mark s.services) (may_connect s.settings p.proto p.head)

continue_leaves : (s : State) (p : Packet) (e : Entry) (standing : Standing) → Leaves (end_entry e s) (continue s p e standing)
continue_leaves s p e Reused = connect_leaves (end_entry e s) p
continue_leaves s p e ServerGone = serves (end_entry e s) (gone s e) refl
continue_leaves s p e InUse = serves (end_entry e s) (forward_known s p e) (forwarded_served s p e.method e.daddr e.dport)

arrive_leaves : (s : State) (p : Packet) (o : Option Entry) → Leaves (passed s o) (arrive s p o)
arrive_leaves s p None = connect_leaves s p
arrive_leaves s p (Some e) =
    let bound : Entry × State = try_binding s e e.server in
    let server = server_named bound.0.server bound.1.dests in
    continue_leaves bound.1 p bound.0 (standing_of bound.1.settings p bound.0 server)

take_back_leaves : (s left : State) (r : Reply) (t : State) → Leaves left (r, t) → Leaves left (take_back s (r, t))
take_back_leaves s left (reply.Drop drops.TooLong) t leaves = serves left (reply.Drop drops.TooLong, s) refl
take_back_leaves s left r t leaves = leaves

-- what is too long is taken back
take_back_too_long : (s : State) (r : Reply) (t : State) → (take_back s (r, t)).0 ≡ reply.Drop drops.TooLong → (take_back s (r, t)).1 ≡ s
take_back_too_long s (reply.Drop drops.TooLong) t is = refl
take_back_too_long s r t is = absurd cc

-- malformed or too long: as it was; passed on: with this state left
pub record LeavesRead (s left : State) (answer : Reply × State) : Type 0 where
  pub pass : answer.0 ≡ reply.Pass → answer.1 ≡ left
  pub malformed : (why : Malformed) → answer.0 ≡ reply.Drop (drops.Malformed why) → answer.1 ≡ s
  pub too_long : answer.0 ≡ reply.Drop drops.TooLong → answer.1 ≡ s

packet_leaves : (s : State) (p : Packet) → LeavesRead s (passed s (entry_at (key_of p.proto p.head) s.entries)) (incoming_packet s p)
packet_leaves s p =
    let o : Option Entry = entry_at (key_of p.proto p.head) s.entries in
    let answer : Reply × State = arrive s p o in
    let leaves = take_back_leaves s (passed s o) answer.0 answer.1 (arrive_leaves s p o) in
    record {
      pass = leaves.pass;
      malformed = λ why is. absurd (leaves.malformed why is);
      too_long = take_back_too_long s answer.0 answer.1;
    }

incoming_of_leaves : (s : State) (mark : ℕ) (head : Head) (bytes : List ℕ) (o : Option Proto) → LeavesRead s (passed s (entry_of_head s head o)) (incoming_of s mark head bytes o)
incoming_of_leaves s mark head bytes None = record { pass = λ _. refl; malformed = λ why is. refl; too_long = λ is. refl }
incoming_of_leaves s mark head bytes (Some proto) = packet_leaves s (record { mark = mark; proto = proto; head = head; bytes = take head.total bytes })

incoming_read_leaves : (s : State) (mark : ℕ) (bytes : List ℕ) (r : Result Head Malformed) → LeavesRead s (passed s (entry_of_read s r)) (incoming_read s mark bytes r)
incoming_read_leaves s mark bytes (Err why) = record { pass = λ _. refl; malformed = λ why_not is. refl; too_long = λ is. refl }
incoming_read_leaves s mark bytes (Ok head) = incoming_of_leaves s mark head bytes (transport_of head)

pub incoming_leaves : (s : State) (mark : ℕ) (bytes : List ℕ) → LeavesRead s (passed s (entry_of_packet s bytes)) (incoming s mark bytes)
incoming_leaves s mark bytes = incoming_read_leaves s mark bytes (read bytes)

-- AN ANSWER

answer_leaves : (s : State) (head : Head) (bytes : List ℕ) (o : Option Entry) → LeavesRead s s (answer_out s head bytes o)
answer_leaves s head bytes None = record { pass = λ _. refl; malformed = λ why is. refl; too_long = λ is. refl }
answer_leaves s head bytes (Some e) = record { pass = λ is. absurd cc; malformed = λ why is. absurd cc; too_long = λ is. absurd cc }

outgoing_of_leaves : (s : State) (head : Head) (bytes : List ℕ) (o : Option Proto) → LeavesRead s s (outgoing_of s head bytes o)
outgoing_of_leaves s head bytes None = record { pass = λ _. refl; malformed = λ why is. refl; too_long = λ is. refl }
outgoing_of_leaves s head bytes (Some proto) = answer_leaves s head (take head.total bytes) (reply_entry proto head.src head.sport head.dst head.dport s.entries)

outgoing_read_leaves : (s : State) (bytes : List ℕ) (r : Result Head Malformed) → LeavesRead s s (outgoing_read s bytes r)
outgoing_read_leaves s bytes (Err why) = record { pass = λ _. refl; malformed = λ why_not is. refl; too_long = λ is. refl }
outgoing_read_leaves s bytes (Ok head) = outgoing_of_leaves s head bytes (transport_of head)

pub outgoing_leaves : (s : State) (bytes : List ℕ) → LeavesRead s s (outgoing s bytes)
outgoing_leaves s bytes = outgoing_read_leaves s bytes (read bytes)
