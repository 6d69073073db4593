-- A forwarded packet, and the entry of a new connection, keep the state well formed.
use Rattle.std.proofs.Common.{◌≡◌, ◌==◌, ◌+◌, ℕ, Bool, true, false, cond, ◌&&◌, ◌||◌, List, [], ◌∷◌, ◌++◌, Option, Some, None, refl, is_some, is_none, ◌∙◌}
use Rattle.std.proofs.lemmas.Bool.{and_from, or_left}
use Rattle.lvs_types.specs.declared.addr.TemplateId.{TemplateId}
use Rattle.lvs_types.specs.declared.head.Head.{Head}
use Rattle.lvs_types.specs.declared.service.Proto.{Proto}
use Rattle.lvs_types.specs.declared.service.Proto.TheVariants.{Tcp, Udp}
use Rattle.lvs_types.specs.declared.service.Service.{Service}
use Rattle.lvs_types.specs.declared.dest.Dest.{Dest}
use Rattle.lvs_types.specs.declared.entry.Direction.{Direction}
use Rattle.lvs_types.specs.declared.entry.TcpState.{TcpState}
use Rattle.lvs_types.specs.declared.entry.Entry.{Entry}
use Rattle.lvs_types.specs.declared.sync.SyncRecord.{SyncRecord}
use Rattle.lvs_types.specs.declared.reply.Reply.{Reply}
use Rattle.lvs_model.specs.State.{State}
use Rattle.lvs_model.specs.Same.{addr_eq, proto_eq}
use Rattle.lvs_model.specs.Lookups.{dest_at}
use Rattle.lvs_model.specs.Packets.{Packet, key_of}
use Rattle.lvs_model.specs.SyncRules.{due_for_sync, of_entry}
use Rattle.lvs_model.specs.Binding.{put_entry, serves_at, count_bound}
use Rattle.lvs_model.specs.Forwarding.{state_after, direction_in, after_packet, records_due, records_of_template, forward_known}
use Rattle.lvs_model.specs.Scheduling.{connection_port, state_before, new_entry, enter, is_one_packet, connect_to}
use Rattle.lvs_model.specs.WellFormed.{IsOlder}
use Rattle.lvs_well_formed.proofs.Keys.{addr_same, nat_same}
use Rattle.lvs_well_formed.proofs.Parts.{IsSound, Parts, After, stays, then_after}
use Rattle.lvs_well_formed.proofs.AlikeStates.{with_alike, bound_alike}
use Rattle.lvs_well_formed.proofs.Entries.{IsEntryOf, IsFree, entry_sound, sound_at, with_entry_put, with_entry_added, with_pending}

-- PENDING RECORDS

no_records : (master : Option ℕ) (due : Bool) (records : List SyncRecord) → master ≡ None → cond (is_some master && due) records [] ≡ []
no_records None due records none = refl
no_records (Some id) due records none = absurd cc

pub none_due : (s : State) (before : Option TcpState) (e : Entry) → s.daemons.master ≡ None → records_due s before e ≡ []
none_due s before e none = no_records s.daemons.master (due_for_sync s.settings before e) (of_entry e ∷ records_of_template e.template s.templates) none

-- without a master daemon nothing is added
pub none_added : (s : State) (records : List SyncRecord) → Parts s → (s.daemons.master ≡ None → records ≡ []) → s.daemons.master ≡ None → s.pending ++ records ≡ []
none_added s records p quiet none = let first = p.pending none in let rest = quiet none in cc

-- A CONNECTION THAT IS THERE

pub state_stays : (o : Option TcpState) (direction : Direction) (head : Head) → is_none (state_after o direction head) ≡ is_none o
state_stays None direction head = refl
state_stays (Some old) direction head = refl

pub known_after : (s : State) (p : Packet) (e : Entry) → IsEntryOf s e → Parts s → After s (forward_known s p e).1
known_after s p e found parts =
    let after : Entry = after_packet s p e in
    let put : State = record s { entries = put_entry after s.entries } in
    let old = entry_sound s e parts found in
    let sound : IsSound s.next_template s.dests after = record {
      server = old.server;
      goes = old.goes;
      template = old.template;
      state = state_stays e.state (direction_in e.method) p.head ∙ old.state;
    } in
    then_after s put (forward_known s p e).1 (with_entry_put s e after found refl refl sound parts)
    (λ q. with_pending put (s.pending ++ records_due s e.state after) (none_added put (records_due s e.state after) q (none_due s e.state after)) q)

-- A NEW CONNECTION

pub enter_after : (s : State) (p : Packet) (e : Entry) (d : Dest) → e.id ≡ s.next_entry → IsFree s e.key → IsSound s.next_template s.dests e → Parts s → After s (enter s p e d).1
enter_after s p e d id free sound parts =
    let entries = s.entries ++ e ∷ [] in
    let added : State = record s { entries = entries; next_entry = s.next_entry + 1 } in
    let counted : State = record added { dests = count_bound d.id entries s.dests } in
    let records = records_due s (state_before p.proto) e in
    then_after s counted (enter s p e d).1
    (then_after s added counted (with_entry_added s e id free sound parts) (λ q. with_alike added (count_bound d.id entries s.dests) (bound_alike d.id entries s.dests) q))
    (λ q. with_pending counted (s.pending ++ records) (none_added counted records q (none_due s (state_before p.proto) e)) q)

or_all : (a b c : Bool) → b ≡ true → c ≡ true → (a || (b && c)) ≡ true
or_all true b c is also = refl
or_all false true c is also = also
or_all false false c is also = absurd cc

serves_step : (zero_port : Bool) (port dport : ℕ) → (port == 0) ≡ zero_port → ((port == cond zero_port dport port) || ((port == 0) && (cond zero_port dport port == dport))) ≡ true
serves_step true port dport is = or_all (port == dport) (port == 0) (dport == dport) is (nat_same dport)
serves_step false port dport is = or_left (port == port) ((port == 0) && (port == dport)) (nat_same port)

-- a server serves where it sends its new connections
pub serves_new : (d : Dest) (head : Head) → serves_at d.spec.addr (connection_port d head) head.dport d ≡ true
serves_new d head =
    and_from (addr_eq d.spec.addr d.spec.addr) ((d.spec.port == connection_port d head) || ((d.spec.port == 0) && (connection_port d head == head.dport))) (addr_same d.spec.addr)
    (serves_step (d.spec.port == 0) d.spec.port head.dport refl)

new_state : (proto : Proto) (direction : Direction) (head : Head) → is_none (state_after (state_before proto) direction head) ≡ proto_eq proto Udp
new_state Tcp direction head = refl
new_state Udp direction head = refl

connect_by : (b : Bool) (s : State) (r : Reply) (entered : Reply × State) → Parts s → After s entered.1 → After s (cond b (r, s) entered).1
connect_by true s r entered parts after = stays s parts
connect_by false s r entered parts after = after

-- a connection to a server of the list
pub connect_to_after : (s : State) (p : Packet) (service : Service) (d : Dest) (template : Option TemplateId) → dest_at d.id s.dests ≡ Some d → IsFree s (key_of p.proto p.head) → IsOlder s.next_template template → Parts s
    → After s (connect_to s p service d template).1
connect_to_after s p service d template found free older parts =
    let e : Entry = new_entry s p service d template in
    connect_by (is_one_packet service p.proto) s _ (enter s p e d) parts
    (enter_after s p e d refl free (sound_at s.next_template s.dests e d found (serves_new d p.head) refl older (new_state p.proto (direction_in d.spec.method) p.head)) parts)
