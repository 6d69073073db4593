-- A connection through packets of its own key and of others.
use Rattle.std.proofs.Common.{◌≡◌, ◌==◌, ◌⊎◌, inl, inr, ℕ, Bool, true, false, cond, List, [], ◌∷◌, Option, Some, None, Result, Ok, Err, refl, sym, ap, subst, ◌∙◌, take, nat_le}
use Rattle.std.specs.List.{AllByRecursion, find, filter}
use Rattle.lvs_types.specs.declared.head.Head.{Head}
use Rattle.lvs_types.specs.declared.head.Malformed.{Malformed}
use Rattle.lvs_types.specs.declared.service.Proto.{Proto}
use Rattle.lvs_types.specs.declared.entry.Entry.{Entry}
use Rattle.lvs_types.specs.declared.entry.Direction.TheVariants.{Output}
use Rattle.lvs_types.specs.declared.reply.Reply.{Reply}
use Rattle.lvs_types.specs.declared.reply.Reply.TheVariants as reply
use Rattle.lvs_types.specs.declared.reply.DropCause.TheVariants as drops
use Rattle.lvs_types.specs.Transport.{transport_of}
use Rattle.lvs_model.specs.State.{State}
use Rattle.lvs_model.specs.Reading.{read}
use Rattle.lvs_model.specs.Lists.{lower_of, least_by}
use Rattle.lvs_model.specs.Lookups.{entry_at, reply_entry, is_reply_of, has_entry_id}
use Rattle.lvs_model.specs.Packets.{Packet, key_of}
use Rattle.lvs_model.specs.Binding.{put_entry}
use Rattle.lvs_model.specs.Forwarding.{after_packet, state_after, in_state}
use Rattle.lvs_model.specs.Scheduling.{connect}
use Rattle.lvs_model.specs.declared.incoming.Standing.{Standing}
use Rattle.lvs_model.specs.declared.incoming.Standing.TheVariants.{Reused, ServerGone, InUse}
use Rattle.lvs_model.specs.Incoming.{end_entry, continue, arrive, take_back, incoming_packet, incoming_of, incoming_read}
use Rattle.lvs_model.specs.Outgoing.{answer_out, outgoing_of, outgoing_read}
use Rattle.lvs_well_formed.proofs.Lists.{all_filter}
use Rattle.lvs_well_formed.proofs.Parts.{Parts}
use Rattle.lvs_well_formed.proofs.Entries.{IsEntryOf, entries_found}
use Rattle.lvs_well_formed.proofs.Bindings.{IsTried, try_tried}
use Rattle.lvs_well_formed.proofs.Free.{found_by_key, found_of_key}
use Rattle.lvs_laws.specs.Keeping.{IsKeptUnless, entry_of_id, met, is_reused_by, is_at_removed, packet_of, IsGone, IsEndedBy}
use Rattle.lvs_laws.proofs.Kept.{IsKept, same_self, kept_found, kept_weaker, then_kept, put_kept, ended_kept, drawn_below, below_differs}
use Rattle.lvs_laws.proofs.KeptConnects.{connect_same, met_same, try_kept, try_settings}

-- A PACKET OF A CONNECTION

-- how an entry stands, by whether it is reused and whether its server was removed
abbrev pub stands_by : Bool → Bool → Standing
stands_by reused trashed = cond reused Reused (cond trashed ServerGone InUse)

-- the entry ends, by the same
abbrev EndsBy : State → Bool → Bool → Type 0
EndsBy s true trashed = Unit {0}
EndsBy s false true = (s.settings.expire_nodest == 0) ≡ false
EndsBy s false false = ⊥

ended_by : (b : Bool) (s : State) (x e : Entry) → Parts s → IsEntryOf s x → IsEntryOf s e → IsKeptUnless ((x ≡ e) × (b ≡ false)) e (entry_of_id e.id (cond b s (end_entry x s)).entries)
ended_by true s x e parts there found = kept_found ((x ≡ e) × (true ≡ false)) e e (entry_of_id e.id s.entries) found (same_self e)
ended_by false s x e parts there found =
    kept_weaker (x ≡ e) ((x ≡ e) × (false ≡ false)) e (entry_of_id e.id (end_entry x s).entries) (λ one. (one, refl)) (ended_kept s.entries x e (entries_found s parts) there found)

continue_kept : (s : State) (p : Packet) (x e : Entry) (reused trashed : Bool) → Parts s → IsEntryOf s x → IsEntryOf s e → IsKeptUnless ((x ≡ e) × EndsBy s reused trashed) e (entry_of_id e.id (continue s p x (stands_by reused trashed)).1.entries)
continue_kept s p x e true trashed parts there found =
    let left : State = end_entry x s in
    subst (IsKeptUnless ((x ≡ e) × Unit {0}) e) (sym (connect_same left p e.id (below_differs e.id s.next_entry (drawn_below s e parts found))))
    (kept_weaker (x ≡ e) ((x ≡ e) × Unit {0}) e (entry_of_id e.id left.entries) (λ one. (one, tt)) (ended_kept s.entries x e (entries_found s parts) there found))
continue_kept s p x e false true parts there found = ended_by (s.settings.expire_nodest == 0) s x e parts there found
continue_kept s p x e false false parts there found =
    let k = put_kept s.entries x (after_packet s p x) e there (record { id = refl; key = refl; daddr = refl; dport = refl; server = λ bound. refl; method = λ bound. refl }) found in
    kept_found ((x ≡ e) × ⊥) e k.later (entry_of_id e.id (put_entry (after_packet s p x) s.entries)) k.found k.same

-- why the packet ends the entry that it met
abbrev Ends : State → Packet → Entry → Type 0
Ends s p x = EndsBy (met s x).1 (is_reused_by s x p) (is_at_removed s x)

known_kept : (s : State) (p : Packet) (x e : Entry) → Parts s → IsEntryOf s x → IsEntryOf s e → IsKeptUnless ((x ≡ e) × Ends s p x) e (entry_of_id e.id (arrive s p (Some x)).1.entries)
known_kept s p x e parts there found =
    let bound : Entry × State = met s x in
    let tried : IsTried s x bound.1 bound.0 = try_tried s x x.server there parts in
    let k : IsKept e bound.1.entries = try_kept s x e x.server there refl found in
    let one : bound.0 ≡ k.later → x ≡ e = λ is.
    let ids : x.id ≡ e.id = sym (met_same s x).id ∙ ap (λ (f : Entry). f.id) is ∙ k.same.id in
    let here : entry_of_id e.id s.entries ≡ Some x = subst (λ id. entry_of_id id s.entries ≡ Some x) ids there in
    cc
    in
    then_kept ((x ≡ e) × Ends s p x) e bound.1.entries (arrive s p (Some x)).1.entries k
    (λ now.
    kept_weaker ((bound.0 ≡ k.later) × Ends s p x) ((x ≡ e) × Ends s p x) k.later (entry_of_id k.later.id (arrive s p (Some x)).1.entries)
    (λ both. (one both.0, both.1))
    (continue_kept bound.1 p bound.0 k.later (is_reused_by s x p) (is_at_removed s x) tried.after.parts tried.found now))

arrive_kept : (s : State) (p : Packet) (o : Option Entry) (e : Entry) → entry_at (key_of p.proto p.head) s.entries ≡ o → Parts s → IsEntryOf s e
    → IsKeptUnless ((key_of p.proto p.head ≡ e.key) × Ends s p e) e (entry_of_id e.id (arrive s p o).1.entries)
arrive_kept s p None e is parts found =
    kept_found ((key_of p.proto p.head ≡ e.key) × Ends s p e) e e (entry_of_id e.id (connect s p).1.entries)
    (connect_same s p e.id (below_differs e.id s.next_entry (drawn_below s e parts found)) ∙ found) (same_self e)
arrive_kept s p (Some x) e is parts found =
    let key = key_of p.proto p.head in
    kept_weaker ((x ≡ e) × Ends s p x) ((key_of p.proto p.head ≡ e.key) × Ends s p e) e (entry_of_id e.id (arrive s p (Some x)).1.entries)
    (λ both. (sym (found_of_key s key x is) ∙ ap (λ (f : Entry). f.key) both.0, subst (Ends s p) both.0 both.1))
    (known_kept s p x e parts (found_by_key s key x parts is) found)

take_back_kept : (Way : Type 0) (s : State) (e : Entry) (r : Reply) (t : State) → IsEntryOf s e → IsKeptUnless Way e (entry_of_id e.id t.entries) → IsKeptUnless Way e (entry_of_id e.id (take_back s (r, t)).1.entries)
take_back_kept Way s e (reply.Drop drops.TooLong) t found kept = kept_found Way e e (entry_of_id e.id s.entries) found (same_self e)
take_back_kept Way s e r t found kept = kept

packet_kept : (s : State) (p : Packet) (e : Entry) → Parts s → IsEntryOf s e → IsKeptUnless ((key_of p.proto p.head ≡ e.key) × Ends s p e) e (entry_of_id e.id (incoming_packet s p).1.entries)
packet_kept s p e parts found =
    let o : Option Entry = entry_at (key_of p.proto p.head) s.entries in
    let answer : Reply × State = arrive s p o in
    take_back_kept ((key_of p.proto p.head ≡ e.key) × Ends s p e) s e answer.0 answer.1 found (arrive_kept s p o e refl parts found)

-- the cause of an ending
ends_cause : (s t : State) (a b : Bool) → t.settings ≡ s.settings → EndsBy t a b → (a ≡ true) ⊎ ((b ≡ true) × ((s.settings.expire_nodest == 0) ≡ false))
ends_cause s t true b same ends = inl refl
ends_cause s t false true same ends = inr (refl, ap (λ settings. settings.expire_nodest == 0) (sym same) ∙ ends)
ends_cause s t false false same ends = absurd ends

gone_of : (s : State) (e : Entry) (a : Bool) → (a ≡ true) ⊎ ((is_at_removed s e ≡ true) × ((s.settings.expire_nodest == 0) ≡ false)) → (a ≡ true) ⊎ IsGone s e
gone_of s e a (inl reused) = inl reused
gone_of s e a (inr gone) = inr (record { removed = gone.0; ends = gone.1 })

incoming_of_kept : (s : State) (mark : ℕ) (head : Head) (bytes : List ℕ) (o : Option Proto) (e : Entry) → read bytes ≡ Ok head → transport_of head ≡ o → Parts s → IsEntryOf s e
    → IsKeptUnless (IsEndedBy s e mark bytes) e (entry_of_id e.id (incoming_of s mark head bytes o).1.entries)
incoming_of_kept s mark head bytes None e reads is parts found = kept_found (IsEndedBy s e mark bytes) e e (entry_of_id e.id s.entries) found (same_self e)
incoming_of_kept s mark head bytes (Some proto) e reads is parts found =
    let p = packet_of mark bytes head proto in
    kept_weaker ((key_of p.proto p.head ≡ e.key) × Ends s p e) (IsEndedBy s e mark bytes) e (entry_of_id e.id (incoming_packet s p).1.entries)
    (λ both. record {
      head = head;
      proto = proto;
      packet = record { reads = reads; transport = is; key = both.0 };
      cause = gone_of s e (is_reused_by s e p) (ends_cause s (met s e).1 (is_reused_by s e p) (is_at_removed s e) (try_settings s e e.server) both.1);
    })
    (packet_kept s p e parts found)

pub incoming_kept : (s : State) (mark : ℕ) (bytes : List ℕ) (r : Result Head Malformed) (e : Entry) → read bytes ≡ r → Parts s → IsEntryOf s e → IsKeptUnless (IsEndedBy s e mark bytes) e (entry_of_id e.id (incoming_read s mark bytes r).1.entries)
incoming_kept s mark bytes (Err why) e is parts found = kept_found (IsEndedBy s e mark bytes) e e (entry_of_id e.id s.entries) found (same_self e)
incoming_kept s mark bytes (Ok head) e is parts found = incoming_of_kept s mark head bytes (transport_of head) e is refl parts found

-- OUTGOING

least_choice : (P : Entry → Type 0) (b : Bool) (x y e : Entry) → P x → P y → cond b (Some x) (Some y) ≡ Some e → P e
least_choice P true x y e px py is = let same : x ≡ e = cc in subst P same px
least_choice P false x y e px py is = let same : y ≡ e = cc in subst P same py

least_of : (P : Entry → Type 0) (x : Entry) (o : Option Entry) (e : Entry) → P x → ((y : Entry) → o ≡ Some y → P y) → lower_of (λ (z : Entry). z.id) x o ≡ Some e → P e
least_of P x None e px py is = let same : x ≡ e = cc in subst P same px
least_of P x (Some y) e px py is = least_choice P (nat_le x.id y.id) x y e px (py y refl) is

-- the least entry is one of the list
all_least : (P : Entry → Type 0) (es : List Entry) (e : Entry) → AllByRecursion P es → least_by (λ (x : Entry). x.id) es ≡ Some e → P e
all_least P [] e each found = absurd cc
all_least P (x ∷ es) e each found = least_of P x (least_by (λ (y : Entry). y.id) es) e each.0 (λ y is. all_least P es y each.1 is) found

answer_kept : (s : State) (head : Head) (bytes : List ℕ) (o : Option Entry) (e : Entry) → ((x : Entry) → o ≡ Some x → IsEntryOf s x) → IsEntryOf s e → IsKeptUnless ⊥ e (entry_of_id e.id (answer_out s head bytes o).1.entries)
answer_kept s head bytes None e there found = kept_found ⊥ e e (entry_of_id e.id s.entries) found (same_self e)
answer_kept s head bytes (Some x) e there found =
    let after : Entry = in_state s.settings s.now (state_after x.state Output head) x in
    let k = put_kept s.entries x after e (there x refl) (record { id = refl; key = refl; daddr = refl; dport = refl; server = λ bound. refl; method = λ bound. refl }) found in
    kept_found ⊥ e k.later (entry_of_id e.id (put_entry after s.entries)) k.found k.same

outgoing_of_kept : (s : State) (head : Head) (bytes : List ℕ) (o : Option Proto) (e : Entry) → Parts s → IsEntryOf s e → IsKeptUnless ⊥ e (entry_of_id e.id (outgoing_of s head bytes o).1.entries)
outgoing_of_kept s head bytes None e parts found = kept_found ⊥ e e (entry_of_id e.id s.entries) found (same_self e)
outgoing_of_kept s head bytes (Some proto) e parts found =
    let IsIn : Entry → Type 0 = λ x. find (has_entry_id x.id) s.entries ≡ Some x in
    let test : Entry → Bool = is_reply_of proto head.src head.sport head.dst head.dport in
    answer_kept s head (take head.total bytes) (reply_entry proto head.src head.sport head.dst head.dport s.entries) e
    (λ x is. all_least IsIn (filter test s.entries) x (all_filter IsIn test s.entries (entries_found s parts)) is) found

pub outgoing_kept : (s : State) (bytes : List ℕ) (r : Result Head Malformed) (e : Entry) → Parts s → IsEntryOf s e → IsKeptUnless ⊥ e (entry_of_id e.id (outgoing_read s bytes r).1.entries)
outgoing_kept s bytes (Err why) e parts found = kept_found ⊥ e e (entry_of_id e.id s.entries) found (same_self e)
outgoing_kept s bytes (Ok head) e parts found = outgoing_of_kept s head bytes (transport_of head) e parts found
