-- Incoming and outgoing packets keep the state well formed.
use Rattle.std.proofs.Common.{◌≡◌, ◌==◌, ℕ, Bool, true, false, cond, List, [], ◌∷◌, Option, Some, None, Result, Ok, Err, refl, subst, ◌∙◌, take, nat_le}
use Rattle.std.specs.List.{AllByRecursion, find, filter}
use Rattle.lvs_types.specs.declared.head.Head.{Head}
use Rattle.lvs_types.specs.declared.head.Malformed.{Malformed}
use Rattle.lvs_types.specs.declared.service.Proto.{Proto}
use Rattle.lvs_types.specs.declared.entry.Entry.{Entry}
use Rattle.lvs_types.specs.declared.entry.Direction.TheVariants.{Output}
use Rattle.lvs_types.specs.declared.reply.Reply.{Reply}
use Rattle.lvs_types.specs.declared.reply.Reply.TheVariants as reply
use Rattle.lvs_types.specs.declared.reply.DropCause.TheVariants as drops
use Rattle.lvs_types.specs.Transport.{transport_of}
use Rattle.lvs_model.specs.State.{State}
use Rattle.lvs_model.specs.Lists.{lower_of, least_by}
use Rattle.lvs_model.specs.Lookups.{entry_at, reply_entry, is_reply_of, has_entry_id}
use Rattle.lvs_model.specs.Packets.{Packet, key_of}
use Rattle.lvs_model.specs.Binding.{try_binding}
use Rattle.lvs_model.specs.Forwarding.{state_after, in_state}
use Rattle.lvs_model.specs.declared.incoming.Standing.{Standing}
use Rattle.lvs_model.specs.declared.incoming.Standing.TheVariants.{Reused, ServerGone, InUse}
use Rattle.lvs_model.specs.Incoming.{end_entry, continue, arrive, take_back, incoming_packet, incoming_of, incoming_read, server_named, standing_of}
use Rattle.lvs_model.specs.Outgoing.{answer_out, outgoing_of, outgoing_read}
use Rattle.lvs_well_formed.proofs.Lists.{all_filter}
use Rattle.lvs_well_formed.proofs.Parts.{Parts, After, stays, then_after}
use Rattle.lvs_well_formed.proofs.Entries.{IsEntryOf, entries_found, entry_sound, with_entry_put, ended_after}
use Rattle.lvs_well_formed.proofs.Bindings.{IsTried, try_tried}
use Rattle.lvs_well_formed.proofs.Free.{free_ended, free_none, found_by_key, found_of_key}
use Rattle.lvs_well_formed.proofs.Forwards.{known_after, state_stays}
use Rattle.lvs_well_formed.proofs.Schedules.{connect_after}

after_by : (b : Bool) (s t u : State) → After s t → After s u → After s (cond b t u)
after_by true s t u first second = first
after_by false s t u first second = second

continue_after : (s : State) (p : Packet) (e : Entry) (standing : Standing) → IsEntryOf s e → e.key ≡ key_of p.proto p.head → Parts s → After s (continue s p e standing).1
continue_after s p e Reused found key parts =
    then_after s (end_entry e s) (continue s p e Reused).1 (ended_after s e parts)
    (λ q. connect_after (end_entry e s) p (free_ended s e (key_of p.proto p.head) parts found key) q)
continue_after s p e ServerGone found key parts = after_by (s.settings.expire_nodest == 0) s s (end_entry e s) (stays s parts) (ended_after s e parts)
continue_after s p e InUse found key parts = known_after s p e found parts

arrive_after : (s : State) (p : Packet) (o : Option Entry) → entry_at (key_of p.proto p.head) s.entries ≡ o → Parts s → After s (arrive s p o).1
arrive_after s p None found parts = connect_after s p (free_none s (key_of p.proto p.head) found) parts
arrive_after s p (Some e) found parts =
    let key = key_of p.proto p.head in
    let bound : Entry × State = try_binding s e e.server in
    let tried : IsTried s e bound.1 bound.0 = try_tried s e e.server (found_by_key s key e parts found) parts in
    let server = server_named bound.0.server bound.1.dests in
    then_after s bound.1 (arrive s p (Some e)).1 tried.after
    (λ q. continue_after bound.1 p bound.0 (standing_of bound.1.settings p bound.0 server) tried.found (tried.key ∙ found_of_key s key e found) q)

take_back_after : (s : State) (r : Reply) (t : State) → Parts s → After s t → After s (take_back s (r, t)).1
take_back_after s (reply.Drop drops.TooLong) t parts after = stays s parts
take_back_after s r t parts after = after

packet_after : (s : State) (p : Packet) → Parts s → After s (incoming_packet s p).1
packet_after s p parts =
    let o : Option Entry = entry_at (key_of p.proto p.head) s.entries in
    let answer : Reply × State = arrive s p o in
    take_back_after s answer.0 answer.1 parts (arrive_after s p o refl parts)

incoming_of_after : (s : State) (mark : ℕ) (head : Head) (bytes : List ℕ) (o : Option Proto) → Parts s → After s (incoming_of s mark head bytes o).1
incoming_of_after s mark head bytes None parts = stays s parts
incoming_of_after s mark head bytes (Some proto) parts = packet_after s (record { mark = mark; proto = proto; head = head; bytes = take head.total bytes }) parts

pub incoming_after : (s : State) (mark : ℕ) (bytes : List ℕ) (r : Result Head Malformed) → Parts s → After s (incoming_read s mark bytes r).1
incoming_after s mark bytes (Err why) parts = stays s parts
incoming_after s mark bytes (Ok head) parts = incoming_of_after s mark head bytes (transport_of head) parts

-- OUTGOING

least_choice : (P : Entry → Type 0) (b : Bool) (x y e : Entry) → P x → P y → cond b (Some x) (Some y) ≡ Some e → P e
least_choice P true x y e px py is = let same : x ≡ e = cc in subst P same px
least_choice P false x y e px py is = let same : y ≡ e = cc in subst P same py

least_of : (P : Entry → Type 0) (x : Entry) (o : Option Entry) (e : Entry) → P x → ((y : Entry) → o ≡ Some y → P y) → lower_of (λ (z : Entry). z.id) x o ≡ Some e → P e
least_of P x None e px py is = let same : x ≡ e = cc in subst P same px
least_of P x (Some y) e px py is = least_choice P (nat_le x.id y.id) x y e px (py y refl) is

-- the least entry is one of the list
pub all_least : (P : Entry → Type 0) (es : List Entry) (e : Entry) → AllByRecursion P es → least_by (λ (x : Entry). x.id) es ≡ Some e → P e
all_least P [] e each found = absurd cc
all_least P (x ∷ es) e each found = least_of P x (least_by (λ (y : Entry). y.id) es) e each.0 (λ y is. all_least P es y each.1 is) found

answer_after : (s : State) (head : Head) (bytes : List ℕ) (o : Option Entry) → ((e : Entry) → o ≡ Some e → IsEntryOf s e) → Parts s → After s (answer_out s head bytes o).1
answer_after s head bytes None found parts = stays s parts
answer_after s head bytes (Some e) found parts =
    let after : Entry = in_state s.settings s.now (state_after e.state Output head) e in
    let old = entry_sound s e parts (found e refl) in
    with_entry_put s e after (found e refl) refl refl (record { server = old.server; goes = old.goes; template = old.template; state = state_stays e.state Output head ∙ old.state }) parts

outgoing_of_after : (s : State) (head : Head) (bytes : List ℕ) (o : Option Proto) → Parts s → After s (outgoing_of s head bytes o).1
outgoing_of_after s head bytes None parts = stays s parts
outgoing_of_after s head bytes (Some proto) parts =
    let IsIn : Entry → Type 0 = λ e. find (has_entry_id e.id) s.entries ≡ Some e in
    let test : Entry → Bool = is_reply_of proto head.src head.sport head.dst head.dport in
    answer_after s head (take head.total bytes) (reply_entry proto head.src head.sport head.dst head.dport s.entries)
    (λ e is. all_least IsIn (filter test s.entries) e (all_filter IsIn test s.entries (entries_found s parts)) is) parts

pub outgoing_after : (s : State) (bytes : List ℕ) (r : Result Head Malformed) → Parts s → After s (outgoing_read s bytes r).1
outgoing_after s bytes (Err why) parts = stays s parts
outgoing_after s bytes (Ok head) parts = outgoing_of_after s head bytes (transport_of head) parts
