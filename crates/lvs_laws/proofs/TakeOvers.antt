-- The packets of a connection follow it, and a recorded connection is there as it was recorded.
use Rattle.std.proofs.Common.{◌≡◌, ◌==◌, ◌<◌, ◌+◌, ℕ, Bool, true, false, cond, List, [], ◌∷◌, ◌++◌, Option, Some, None, Result, refl, sym, ap, subst, ◌∙◌, take, arith}
use Rattle.std.proofs.lemmas.Bool.{and_parts, eqb-true, false_from_ne_true}
use Rattle.std.specs.List.{AllByRecursion}
use Rattle.lvs_types.specs.declared.addr.Addr.{Addr}
use Rattle.lvs_types.specs.declared.addr.DestId.{DestId}
use Rattle.lvs_types.specs.declared.head.Head.{Head}
use Rattle.lvs_types.specs.declared.head.Malformed.{Malformed}
use Rattle.lvs_types.specs.declared.service.Method.{Method}
use Rattle.lvs_types.specs.declared.service.Proto.{Proto}
use Rattle.lvs_types.specs.declared.dest.Dest.{Dest}
use Rattle.lvs_types.specs.declared.entry.Key.{Key}
use Rattle.lvs_types.specs.declared.entry.Entry.{Entry}
use Rattle.lvs_types.specs.declared.item.Item.{Item}
use Rattle.lvs_types.specs.declared.item.Item.TheVariants as item
use Rattle.lvs_types.specs.declared.reply.Reply.{Reply}
use Rattle.lvs_types.specs.declared.reply.Reply.TheVariants as reply
use Rattle.lvs_types.specs.declared.reply.DropCause.TheVariants as drops
use Rattle.lvs_types.specs.declared.sync.SyncItem.TheVariants.{V4}
use Rattle.lvs_types.specs.declared.sync.SyncRecord.{SyncRecord}
use Rattle.lvs_types.specs.declared.sync.Learnt.{Learnt}
use Rattle.lvs_types.specs.declared.sync.Learnt.TheVariants as learnt
use Rattle.lvs_types.specs.Transport.{transport_of}
use Rattle.lvs_model.specs.State.{State}
use Rattle.lvs_model.specs.Step.{step, run}
use Rattle.lvs_model.specs.Rewriting.{bytes_for, is_too_long}
use Rattle.lvs_model.specs.Lookups.{entry_at, has_entry_id}
use Rattle.lvs_model.specs.Packets.{key_of}
use Rattle.lvs_model.specs.Binding.{put_entry, bind_entry, try_binding, server_for_entry}
use Rattle.lvs_model.specs.Incoming.{end_entry, continue, arrive, take_back, incoming_of, incoming_read}
use Rattle.lvs_model.specs.SyncRules.{accept, is_template_record}
use Rattle.lvs_model.specs.Learning.{recorded_key, recorded_entry, add_entry, relearnt, goes_to_recorded, relearn, learn_connection, recorded_template_key, learn_template, learn_by}
use Rattle.lvs_model.specs.Lookups.{template_at}
use Rattle.lvs_model.specs.Same.{addr_eq}
use Rattle.lvs_model.specs.WellFormed.{IsWellFormed, IsDrawn}
use Rattle.lvs_well_formed.proofs.Lists.{all_find, find_passes, all_unmap, all_weaker}
use Rattle.lvs_well_formed.proofs.Finds.{find_last, find_put}
use Rattle.lvs_well_formed.proofs.Keys.{nat_same, addr_true}
use Rattle.lvs_well_formed.proofs.Parts.{Parts, parts_of}
use Rattle.lvs_well_formed.proofs.Entries.{IsEntryOf, ended_after}
use Rattle.lvs_well_formed.proofs.Free.{found_by_key, found_of_key}
use Rattle.lvs_well_formed.proofs.Found.{entries_by_key}
use Rattle.lvs_well_formed.proofs.Steps.{step_well_formed, run_well_formed}
use Rattle.lvs_laws.specs.Keeping.{IsSameConnection, IsKeptUnless, LeavesIn, entry_of_id, met, is_reused_by, is_at_removed, packet_of}
use Rattle.lvs_laws.specs.TakingOver.{IsPlainPacketOf, IsSentOn, IsTakenOver, IsAsRecorded, IsThereAsRecorded, after_record}
use Rattle.lvs_laws.proofs.KeptConnects.{met_same, try_kept}
use Rattle.lvs_laws.proofs.KeptPackets.{stands_by}
use Rattle.lvs_laws.proofs.KeptSteps.{run_kept}

-- A PACKET OF A CONNECTION

-- an entry is the one that its key finds
pub by_key : (s : State) (e : Entry) → IsWellFormed s → entry_of_id e.id s.entries ≡ Some e → entry_at e.key s.entries ≡ Some e
by_key s e w found = all_find (λ (x : Entry). entry_at x.key s.entries ≡ Some x) (has_entry_id e.id) s.entries e (entries_by_key s w) found

bind_local : (s : State) (e : Entry) (o : Option Dest) → (bind_entry s e o).1.local ≡ s.local
bind_local s e None = refl
bind_local s e (Some d) = refl

try_local : (s : State) (e : Entry) (o : Option DestId) → (try_binding s e o).1.local ≡ s.local
try_local s e (Some id) = refl
try_local s e None = bind_local s e (server_for_entry s.services s.dests e)

-- the bytes as they are sent
forwarded_by : (s : State) (e : Entry) (head : Head) (bytes : List ℕ) (b : Bool) (method : Method) (local daddr : Addr) (dport : ℕ) → is_too_long head method ≡ b → method ≡ (met s e).0.method → local ≡ s.local
    → IsSentOn s e head bytes daddr dport (cond b (reply.Drop drops.TooLong) (reply.Forward method daddr (bytes_for local head (take head.total bytes) method daddr dport)))
forwarded_by s e head bytes true method local daddr dport long own here = ap (is_too_long head) (sym own) ∙ long
forwarded_by s e head bytes false method local daddr dport long own here = (own, refl, ap (λ (a : Addr). bytes_for a head (take head.total bytes) method daddr dport) here)

-- a packet that doesn't take up the entry's place, by whether the server was removed
continue_sent : (s t : State) (mark : ℕ) (bytes : List ℕ) (head : Head) (proto : Proto) (e x : Entry) (trashed : Bool) → is_at_removed s e ≡ trashed → x.method ≡ (met s e).0.method → t.local ≡ s.local
    → IsSentOn s e head bytes x.daddr x.dport (continue t (packet_of mark bytes head proto) x (stands_by false trashed)).0
continue_sent s t mark bytes head proto e x true is own here = is
continue_sent s t mark bytes head proto e x false is own here = forwarded_by s e head bytes (is_too_long head x.method) x.method t.local x.daddr x.dport refl own here

take_back_sent : (P : Reply → Type 0) (s : State) (r : Reply) (t : State) → P r → P (take_back s (r, t)).0
take_back_sent P s (reply.Drop drops.TooLong) t is = is
take_back_sent P s r t is = is

arrive_sent : (s : State) (mark : ℕ) (bytes : List ℕ) (head : Head) (proto : Proto) (e : Entry) → is_reused_by s e (packet_of mark bytes head proto) ≡ false
    → IsSentOn s e head bytes e.daddr e.dport (arrive s (packet_of mark bytes head proto) (Some e)).0
arrive_sent s mark bytes head proto e stays =
    let p = packet_of mark bytes head proto in
    let bound : Entry × State = met s e in
    let same = met_same s e in
    let sent = continue_sent s bound.1 mark bytes head proto e bound.0 (is_at_removed s e) refl refl (try_local s e e.server) in
    let there : IsSentOn s e head bytes e.daddr e.dport (continue bound.1 p bound.0 (stands_by false (is_at_removed s e))).0 =
    subst (λ port. IsSentOn s e head bytes e.daddr port (continue bound.1 p bound.0 (stands_by false (is_at_removed s e))).0) same.dport
    (subst (λ addr. IsSentOn s e head bytes addr bound.0.dport (continue bound.1 p bound.0 (stands_by false (is_at_removed s e))).0) same.daddr sent)
    in
    subst (λ reused. IsSentOn s e head bytes e.daddr e.dport (continue bound.1 p bound.0 (stands_by reused (is_at_removed s e))).0) (sym stays) there

packet_sent : (s : State) (mark : ℕ) (bytes : List ℕ) (head : Head) (proto : Proto) (e : Entry) (o : Option Entry) → o ≡ Some e → is_reused_by s e (packet_of mark bytes head proto) ≡ false
    → IsSentOn s e head bytes e.daddr e.dport (take_back s (arrive s (packet_of mark bytes head proto) o)).0
packet_sent s mark bytes head proto e o is stays =
    let p = packet_of mark bytes head proto in
    let answer : Reply × State = arrive s p (Some e) in
    subst (λ own. IsSentOn s e head bytes e.daddr e.dport (take_back s (arrive s (packet_of mark bytes head proto) own)).0) (sym is)
    (take_back_sent (IsSentOn s e head bytes e.daddr e.dport) s answer.0 answer.1 (arrive_sent s mark bytes head proto e stays))

pub step_sent : (s : State) (e : Entry) (mark : ℕ) (bytes : List ℕ) (head : Head) (proto : Proto) → IsWellFormed s → entry_of_id e.id s.entries ≡ Some e → IsPlainPacketOf s e mark bytes head proto
    → IsSentOn s e head bytes e.daddr e.dport (step s (item.Incoming mark bytes)).0
step_sent s e mark bytes head proto w found plain =
    let p = packet_of mark bytes head proto in
    let there : entry_at (key_of proto head) s.entries ≡ Some e = subst (λ (k : Key). entry_at k s.entries ≡ Some e) (sym plain.packet.key) (by_key s e w found) in
    let sent = packet_sent s mark bytes head proto e (entry_at (key_of proto head) s.entries) there plain.stays in
    let of : IsSentOn s e head bytes e.daddr e.dport (incoming_of s mark head bytes (transport_of head)).0 =
    subst (λ (o : Option Proto). IsSentOn s e head bytes e.daddr e.dport (incoming_of s mark head bytes o).0) (sym plain.packet.transport) sent
    in
    subst (λ (r : Result Head Malformed). IsSentOn s e head bytes e.daddr e.dport (incoming_read s mark bytes r).0) (sym plain.packet.reads) of

-- A RECORDED CONNECTION

-- an entry as recorded is in the list
record HasRecorded (r : SyncRecord) (s : State) : Type 0 where
  pub own : Entry
  pub found : IsEntryOf s own
  pub recorded : IsAsRecorded r own

recorded_then : (r : SyncRecord) (e later : Entry) → IsAsRecorded r e → IsSameConnection e later → IsAsRecorded r later
recorded_then r e later recorded same = record {
  key = same.key ∙ recorded.key;
  daddr = same.daddr ∙ recorded.daddr;
  dport = same.dport ∙ recorded.dport;
}

-- an entry of the list is tried
tried_recorded : (s : State) (r : SyncRecord) (e : Entry) (o : Option DestId) → IsEntryOf s e → e.server ≡ o → IsAsRecorded r e → HasRecorded r (try_binding s e o).1
tried_recorded s r e o found is recorded =
    let k = try_kept s e e o found is found in
    record {
      own = k.later;
      found = subst (λ id. entry_of_id id (try_binding s e o).1.entries ≡ Some k.later) (sym k.same.id) k.found;
      recorded = recorded_then r e k.later recorded k.same;
    }

below_other : (id next : ℕ) → id < next → (id == next) ≡ false
below_other id next below = false_from_ne_true (id == next) (λ same. let equal : id ≡ next = eqb-true id next same in omega arith)

-- no entry has the next id
none_next : (s : State) (next : ℕ) → next ≡ s.next_entry → Parts s → AllByRecursion (λ (x : Entry). (x.id == next) ≡ false) s.entries
none_next s next is parts =
    all_weaker (λ (x : Entry). IsDrawn s.next_entry x.id) (λ (x : Entry). (x.id == next) ≡ false) s.entries
    (λ x drawn. below_other x.id next (subst (λ n. x.id < n) (sym is) drawn.1))
    (all_unmap (IsDrawn s.next_entry) (λ (x : Entry). x.id) s.entries parts.entries.ids.each)

add_recorded : (s : State) (r : SyncRecord) → Parts s → HasRecorded r (add_entry s (recorded_entry s r))
add_recorded s r parts =
    let e : Entry = recorded_entry s r in
    let added : State = record s { entries = s.entries ++ e ∷ []; next_entry = s.next_entry + 1 } in
    tried_recorded added r e None (find_last (has_entry_id e.id) s.entries e (none_next s s.next_entry refl parts) (nat_same e.id)) refl (record { key = refl; daddr = refl; dport = refl })

relearn_recorded : (s : State) (r : SyncRecord) (e : Entry) (b : Bool) → goes_to_recorded r e ≡ b → IsEntryOf s e → e.key ≡ recorded_key r → Parts s → HasRecorded r (relearn s r e b)
relearn_recorded s r e true is found key parts =
    let after : Entry = relearnt s r e in
    let put : State = record s { entries = put_entry after s.entries } in
    let both = and_parts (addr_eq e.daddr r.daddr) (e.dport == r.dport) is in
    tried_recorded put r after after.server (find_put (has_entry_id after.id) after s.entries e found (nat_same after.id)) refl
    (record { key = key; daddr = addr_true e.daddr r.daddr both.0; dport = eqb-true e.dport r.dport both.1 })
relearn_recorded s r e false is found key parts = add_recorded (end_entry e s) r (ended_after s e parts).parts

learn_recorded : (s : State) (r : SyncRecord) (o : Option Entry) → entry_at (recorded_key r) s.entries ≡ o → Parts s → HasRecorded r (learn_connection s r o)
learn_recorded s r None is parts = add_recorded s r parts
learn_recorded s r (Some e) is parts =
    relearn_recorded s r e (goes_to_recorded r e) refl (found_by_key s (recorded_key r) e parts is) (found_of_key s (recorded_key r) e is) parts

record_recorded : (r : SyncRecord) (b : Bool) (t u : State) → b ≡ false → HasRecorded r u → HasRecorded r (cond b t u)
record_recorded r true t u is has = absurd cc
record_recorded r false t u is has = has

learn_by_recorded : (s : State) (r : SyncRecord) (a : Learnt) → (learn_by s (V4 r) a).0 ≡ reply.Learnt learnt.Accepted → is_template_record r ≡ false → Parts s → HasRecorded r (learn_by s (V4 r) a).1
learn_by_recorded s r learnt.Accepted is connection parts =
    record_recorded r (is_template_record r) (learn_template s r (template_at (recorded_template_key r) s.templates)) (learn_connection s r (entry_at (recorded_key r) s.entries)) connection
    (learn_recorded s r (entry_at (recorded_key r) s.entries) refl parts)
learn_by_recorded s r learnt.Off is connection parts = absurd cc
learn_by_recorded s r learnt.OtherId is connection parts = absurd cc
learn_by_recorded s r learnt.V6 is connection parts = absurd cc
learn_by_recorded s r learnt.BadProto is connection parts = absurd cc
learn_by_recorded s r learnt.BadState is connection parts = absurd cc
learn_by_recorded s r learnt.BadMethod is connection parts = absurd cc

has_recorded : (s : State) (sync_id : ℕ) (r : SyncRecord) → IsWellFormed s → IsTakenOver s sync_id r → HasRecorded r (after_record s sync_id r)
has_recorded s sync_id r w taken = learn_by_recorded s r (accept s.daemons.backup sync_id (V4 r)) taken.accepted taken.connection (parts_of s w)

pub recorded_there : (s : State) (sync_id : ℕ) (r : SyncRecord) → IsWellFormed s → IsTakenOver s sync_id r → IsThereAsRecorded r (entry_at (recorded_key r) (after_record s sync_id r).entries)
recorded_there s sync_id r w taken =
    let t : State = after_record s sync_id r in
    let has = has_recorded s sync_id r w taken in
    let found : entry_at has.own.key t.entries ≡ Some has.own = by_key t has.own (step_well_formed s (item.Learn sync_id (V4 r)) w) has.found in
    let there : entry_at (recorded_key r) t.entries ≡ Some has.own = subst (λ (k : Key). entry_at k t.entries ≡ Some has.own) has.recorded.key found in
    subst (IsThereAsRecorded r) (sym there) has.recorded

pub recorded_stays : (s : State) (sync_id : ℕ) (r : SyncRecord) (e : Entry) (items : List Item) (later : Entry)
    → IsWellFormed s → IsTakenOver s sync_id r → entry_at (recorded_key r) (after_record s sync_id r).entries ≡ Some e
    → entry_of_id e.id (run (after_record s sync_id r) items).1.entries ≡ Some later → IsAsRecorded r later
recorded_stays s sync_id r e items later w taken there found =
    let t : State = after_record s sync_id r in
    let well : IsWellFormed t = step_well_formed s (item.Learn sync_id (V4 r)) w in
    let recorded : IsAsRecorded r e = subst (IsThereAsRecorded r) there (recorded_there s sync_id r w taken) in
    let kept = run_kept t e items well (found_by_key t (recorded_key r) e (parts_of t well) there) in
    recorded_then r e later recorded (subst (IsKeptUnless (LeavesIn t e items) e) found kept)

pub recorded_lasts : (s : State) (sync_id : ℕ) (r : SyncRecord) (e : Entry) (items : List Item) (later : Entry) (mark : ℕ) (bytes : List ℕ) (head : Head) (proto : Proto)
    → IsWellFormed s → IsTakenOver s sync_id r → entry_at (recorded_key r) (after_record s sync_id r).entries ≡ Some e
    → entry_of_id e.id (run (after_record s sync_id r) items).1.entries ≡ Some later
    → IsPlainPacketOf (run (after_record s sync_id r) items).1 later mark bytes head proto
    → IsSentOn (run (after_record s sync_id r) items).1 later head bytes r.daddr r.dport (step (run (after_record s sync_id r) items).1 (item.Incoming mark bytes)).0
recorded_lasts s sync_id r e items later mark bytes head proto w taken there found plain =
    let t : State = after_record s sync_id r in
    let u : State = (run t items).1 in
    let well : IsWellFormed t = step_well_formed s (item.Learn sync_id (V4 r)) w in
    let now : IsAsRecorded r later = recorded_stays s sync_id r e items later w taken there found in
    let same : later.id ≡ e.id = eqb-true later.id e.id (find_passes (has_entry_id e.id) u.entries later found) in
    let own : entry_of_id later.id u.entries ≡ Some later = subst (λ id. entry_of_id id u.entries ≡ Some later) (sym same) found in
    let sent = step_sent u later mark bytes head proto (run_well_formed t items well) own plain in
    subst (λ port. IsSentOn u later head bytes r.daddr port (step u (item.Incoming mark bytes)).0) now.dport
    (subst (λ addr. IsSentOn u later head bytes addr later.dport (step u (item.Incoming mark bytes)).0) now.daddr sent)
