-- What a backup has learnt it has taken over.
use Rattle.std.proofs.Common.{◌≡◌, ℕ, zero, suc, List, [], ◌∷◌, ◌++◌, Option, Some, None, take, map, sym, refl, ap, ◌∙◌, subst}
use Rattle.std.specs.Prelude.{Result, Ok, Err}
use Rattle.std.proofs.lemmas.Bool.{eqb-true}
use Rattle.lvs_types.specs.declared.entry.Entry.{Entry}
use Rattle.lvs_types.specs.declared.entry.Key.{Key}
use Rattle.lvs_types.specs.declared.head.Head.{Head}
use Rattle.lvs_types.specs.declared.item.Item.{Item}
use Rattle.lvs_types.specs.declared.item.Item.TheVariants as item
use Rattle.lvs_types.specs.declared.pair.PairEnd.{PairEnd}
use Rattle.lvs_types.specs.declared.pair.PairEnd.TheVariants.{Finished, NoMemory}
use Rattle.lvs_types.specs.declared.reply.Reply.{Reply}
use Rattle.lvs_types.specs.declared.reply.Reply.TheVariants as reply
use Rattle.lvs_types.specs.declared.service.Proto.{Proto}
use Rattle.lvs_types.specs.declared.sync.Learnt.TheVariants as learnt
use Rattle.lvs_types.specs.declared.sync.BadSync.{BadSync}
use Rattle.lvs_types.specs.declared.sync.Message.{Message}
use Rattle.lvs_types.specs.declared.sync.SyncItem.{SyncItem}
use Rattle.lvs_types.specs.declared.sync.SyncItem.TheVariants.{V4, V6}
use Rattle.lvs_types.specs.declared.sync.SyncRecord.{SyncRecord}
use Rattle.lvs_model.specs.Learning.{recorded_key, learn_by}
use Rattle.lvs_model.specs.Lookups.{entry_at, has_entry_id}
use Rattle.lvs_model.specs.MessageReading.{read_sync}
use Rattle.lvs_model.specs.Plans.{items_of_message}
use Rattle.lvs_model.specs.State.{State}
use Rattle.lvs_model.specs.Step.{step, run}
use Rattle.lvs_model.specs.SyncRules.{is_template_record}
use Rattle.lvs_model.specs.WellFormed.{IsWellFormed}
use Rattle.lvs_well_formed.proofs.Free.{found_by_key}
use Rattle.lvs_well_formed.proofs.Lists.{find_passes}
use Rattle.lvs_well_formed.proofs.Parts.{parts_of}
use Rattle.lvs_well_formed.proofs.Steps.{step_well_formed, run_well_formed}
use Rattle.lvs_laws.specs.Keeping.{entry_of_id, IsKeptUnless, IsReplacedBy, IsSameConnection, LeavesBy, LeavesIn}
use Rattle.lvs_laws.specs.TakingOver.{IsAsRecorded, IsPlainPacketOf, IsReusingPacketOf, IsSentOn, IsTakenOver, IsThereAsRecorded, TakesUp}
use Rattle.lvs_laws.proofs.Kept.{kept_weaker}
use Rattle.lvs_laws.proofs.KeptSteps.{step_kept, run_kept}
use Rattle.lvs_laws.proofs.TakeOvers.{by_key, recorded_there, step_sent}
use Rattle.lvs_laws.proofs.TakenUp.{step_taken_up}
use Rattle.lvs_pair.specs.Following.{accepted, IsLast, IsLastAccepted, GoesOn, IsThere, HasTakenOver}
use Rattle.lvs_pair.specs.Learning.{BeginsWell, HasLearnt, HasLearntSome, LearntBy}
use Rattle.lvs_pair.specs.Pairing.{items_in, items_of, learnt_of}
use Rattle.lvs_pair.specs.declared.backup.Backup.{Backup}

-- WHAT IS LEARNT OF MESSAGES

-- the item is one of a message
abbrev IsOfMessage : Item → Type 0
IsOfMessage (item.Learn sync_id arrived) = Unit {0}
IsOfMessage (item.BadSync why) = Unit {0}
IsOfMessage (item.Incoming mark bytes) = ⊥
IsOfMessage (item.Outgoing bytes) = ⊥
IsOfMessage (item.Edit command) = ⊥
IsOfMessage (item.Set setting) = ⊥
IsOfMessage (item.Tick moment) = ⊥
IsOfMessage (item.Sweep bucket) = ⊥
IsOfMessage item.Reap = ⊥
IsOfMessage item.SendSync = ⊥

abbrev AreOfMessages : List Item → Type 0
AreOfMessages [] = Unit {0}
AreOfMessages (first ∷ items) = IsOfMessage first × AreOfMessages items

both_of_messages : (xs ys : List Item) → AreOfMessages xs → AreOfMessages ys → AreOfMessages (xs ++ ys)
both_of_messages [] ys each each' = each'
both_of_messages (x ∷ xs) ys each each' = (each.0, both_of_messages xs ys each.1 each')

records_of_message : (sync_id : ℕ) (records : List SyncItem) → AreOfMessages (map (λ (r : SyncItem). item.Learn sync_id r) records)
records_of_message sync_id [] = tt
records_of_message sync_id (r ∷ records) = (tt, records_of_message sync_id records)

message_of_message : (read : Result Message BadSync) → AreOfMessages (items_of_message read)
message_of_message (Err why) = (tt, tt)
message_of_message (Ok message) = records_of_message message.sync_id message.items

are_of_messages : (messages : List (List ℕ)) → AreOfMessages (items_of messages)
are_of_messages [] = tt
are_of_messages (message ∷ messages) = both_of_messages (items_in message) (items_of messages) (message_of_message (read_sync message)) (are_of_messages messages)

first_of_messages : (n : ℕ) (items : List Item) → AreOfMessages items → AreOfMessages (take n items)
first_of_messages zero items each = tt
first_of_messages (suc n) [] each = tt
first_of_messages (suc n) (i ∷ items) each = (each.0, first_of_messages n items each.1)

-- AN ITEM OF THE BOOK

-- where the items are cut at one: the state before it, its reply, and what was learnt after it
record CutAt (s : State) (items : List Item) (noted : Item × Reply) (later : List (Item × Reply)) (t : State) : Type 0 where
  pub first : List Item
  pub rest : List Item
  pub cut : items ≡ first ++ noted.0 ∷ rest
  pub answered : noted.1 ≡ (step (run s first).1 noted.0).0
  pub after : (later, t) ≡ learnt_of (step (run s first).1 noted.0).1 rest

abbrev tail_of : List (Item × Reply) → List (Item × Reply)
tail_of [] = []
tail_of (x ∷ xs) = xs

cut_at : (s t : State) (items : List Item) (before later : List (Item × Reply)) (noted : Item × Reply) → (before ++ noted ∷ later, t) ≡ learnt_of s items → CutAt s items noted later t
cut_at s t [] [] later noted is = let none : noted ∷ later ≡ [] = ap (λ (p : List (Item × Reply) × State). p.0) is in absurd cc
cut_at s t [] (x ∷ before) later noted is = let none : x ∷ (before ++ noted ∷ later) ≡ [] = ap (λ (p : List (Item × Reply) × State). p.0) is in absurd cc
cut_at s t (i ∷ items) [] later noted is =
    let now : Item × Reply = (i, (step s i).0) in
    let books : noted ∷ later ≡ now ∷ (learnt_of (step s i).1 items).0 = ap (λ (p : List (Item × Reply) × State). p.0) is in
    let same : now ≡ noted = cc in
    subst (λ (n : Item × Reply). CutAt s (i ∷ items) n later t) same
    (record { first = []; rest = items; cut = refl; answered = refl; after = ap (λ (p : List (Item × Reply) × State). (tail_of p.0, p.1)) is })
cut_at s t (i ∷ items) (x ∷ before) later noted is =
    let c = cut_at (step s i).1 t items before later noted (ap (λ (p : List (Item × Reply) × State). (tail_of p.0, p.1)) is) in
    record { first = i ∷ c.first; rest = c.rest; cut = ap (λ l. i ∷ l) c.cut; answered = c.answered; after = c.after }

-- THE RECORD IS ACCEPTED

-- the connection is there as recorded, in a well formed state
record Stands (r : SyncRecord) (s : State) : Type 0 where
  pub entry : Entry
  pub found : entry_at (recorded_key r) s.entries ≡ Some entry
  pub recorded : IsAsRecorded r entry
  pub well : IsWellFormed s

stands_by : (r : SyncRecord) (s : State) (o : Option Entry) → entry_at (recorded_key r) s.entries ≡ o → IsThereAsRecorded r o → IsWellFormed s → Stands r s
stands_by r s None is there well = absurd there
stands_by r s (Some e) is there well = record { entry = e; found = is; recorded = there; well = well }

stands_at : (s : State) (items first rest : List Item) (sync_id : ℕ) (r : SyncRecord) → items ≡ first ++ item.Learn sync_id (V4 r) ∷ rest → BeginsWell s items
    → IsTakenOver (run s first).1 sync_id r → Stands r (step (run s first).1 (item.Learn sync_id (V4 r))).1
stands_at s items [] rest sync_id r is begun taken =
    let begins = subst (BeginsWell s) is begun in
    let t : State = (step s (item.Learn sync_id (V4 r))).1 in
    stands_by r t (entry_at (recorded_key r) t.entries) refl (begins.0 taken) begins.1
stands_at s items (i ∷ first) rest sync_id r is begun taken =
    let begins = subst (BeginsWell s) is begun in
    let u : State = (run (step s i).1 first).1 in
    let well = run_well_formed (step s i).1 first begins.1 in
    let t : State = (step u (item.Learn sync_id (V4 r))).1 in
    stands_by r t (entry_at (recorded_key r) t.entries) refl (recorded_there u sync_id r well taken) (step_well_formed u (item.Learn sync_id (V4 r)) well)

-- WHAT IS LEARNT AFTER IT

recorded_then : (r : SyncRecord) (e later : Entry) → IsAsRecorded r e → IsSameConnection e later → IsAsRecorded r later
recorded_then r e later recorded same = record { key = same.key ∙ recorded.key; daddr = same.daddr ∙ recorded.daddr; dport = same.dport ∙ recorded.dport }

not_after : (r : SyncRecord) (noted : Item × Reply) (later : List (Item × Reply)) → IsLast r (noted ∷ later) → IsLast r later
not_after r noted later last = λ before after sync_id other is. last (noted ∷ before) after sync_id other (ap (λ l. noted ∷ l) is)

-- no item of a message takes the connection away, unless it is another record of it
not_replaced : (s : State) (r : SyncRecord) (e : Entry) (i : Item) (later : List (Item × Reply)) → IsOfMessage i → IsAsRecorded r e → IsLast r ((i, (step s i).0) ∷ later) → LeavesBy s e i → ⊥
not_replaced s r e (item.Learn sync_id (V4 other)) later of recorded last leaves =
    let answer : (step s (item.Learn sync_id (V4 other))).0 ≡ reply.Learnt learnt.Accepted = ap (λ a. (learn_by s (V4 other) a).0) leaves.accepted in
    last [] later sync_id other (ap (λ a. (item.Learn sync_id (V4 other), a) ∷ later) answer) leaves.connection (leaves.key ∙ recorded.key)
not_replaced s r e (item.Learn sync_id V6) later of recorded last leaves = leaves
not_replaced s r e (item.BadSync why) later of recorded last leaves = leaves
not_replaced s r e (item.Incoming mark bytes) later of recorded last leaves = of
not_replaced s r e (item.Outgoing bytes) later of recorded last leaves = of
not_replaced s r e (item.Edit command) later of recorded last leaves = of
not_replaced s r e (item.Set setting) later of recorded last leaves = of
not_replaced s r e (item.Tick moment) later of recorded last leaves = of
not_replaced s r e (item.Sweep bucket) later of recorded last leaves = of
not_replaced s r e item.Reap later of recorded last leaves = of
not_replaced s r e item.SendSync later of recorded last leaves = of

same_id : (id : ℕ) (es : List Entry) (e : Entry) → entry_of_id id es ≡ Some e → e.id ≡ id
same_id id es e found = eqb-true e.id id (find_passes (has_entry_id id) es e found)

stands_then : (t : State) (r : SyncRecord) (e : Entry) (o : Option Entry) → entry_of_id e.id t.entries ≡ o → IsAsRecorded r e → IsWellFormed t → IsKeptUnless ⊥ e o → Stands r t
stands_then t r e None is recorded well kept = absurd kept
stands_then t r e (Some now) is recorded well kept =
    let own : entry_of_id now.id t.entries ≡ Some now = subst (λ id. entry_of_id id t.entries ≡ Some now) (sym (same_id e.id t.entries now is)) is in
    let there = recorded_then r e now recorded kept in
    record { entry = now; found = subst (λ (k : Key). entry_at k t.entries ≡ Some now) there.key (by_key t now well own); recorded = there; well = well }

stands_on : (s t : State) (r : SyncRecord) (rest : List Item) (later : List (Item × Reply)) → Stands r s → AreOfMessages rest → IsLast r later → (later, t) ≡ learnt_of s rest → Stands r t
stands_on s t r [] later stands of last is = let same : t ≡ s = ap (λ (p : List (Item × Reply) × State). p.1) is in subst (Stands r) (sym same) stands
stands_on s t r (i ∷ rest) later stands of last is =
    let e : Entry = stands.entry in
    let u : State = (step s i).1 in
    let noted : Item × Reply = (i, (step s i).0) in
    let more : List (Item × Reply) = (learnt_of u rest).0 in
    let books : later ≡ noted ∷ more = ap (λ (p : List (Item × Reply) × State). p.0) is in
    let last' : IsLast r (noted ∷ more) = subst (IsLast r) books last in
    let own = found_by_key s (recorded_key r) e (parts_of s stands.well) stands.found in
    let kept = kept_weaker (LeavesBy s e i) ⊥ e (entry_of_id e.id u.entries) (not_replaced s r e i more of.0 stands.recorded last') (step_kept s e i stands.well own) in
    let next = stands_then u r e (entry_of_id e.id u.entries) refl stands.recorded (step_well_formed s i stands.well) kept in
    let after : (more, t) ≡ learnt_of u rest = λ j. (more, (is j).1) in
    stands_on u t r rest more next of.1 (not_after r noted more last') after

-- AND GOES ON

goes_on : (s : State) (r : SyncRecord) (e : Entry) → IsWellFormed s → entry_of_id e.id s.entries ≡ Some e → IsAsRecorded r e → GoesOn s r e
goes_on s r e well own recorded = record {
  kept = λ items. run_kept s e items well own;
  sent = λ items later mark bytes head proto found plain.
      let u : State = (run s items).1 in
      let now : IsAsRecorded r later = recorded_then r e later recorded (subst (IsKeptUnless (LeavesIn s e items) e) found (run_kept s e items well own)) in
      let its : entry_of_id later.id u.entries ≡ Some later = subst (λ id. entry_of_id id u.entries ≡ Some later) (sym (same_id e.id u.entries later found)) found in
      let sent = step_sent u later mark bytes head proto (run_well_formed s items well) its plain in
      subst (λ port. IsSentOn u later head bytes r.daddr port (step u (item.Incoming mark bytes)).0) now.dport
      (subst (λ addr. IsSentOn u later head bytes addr later.dport (step u (item.Incoming mark bytes)).0) now.daddr sent);
  reusing = λ items later mark bytes head proto found reusing.
      let u : State = (run s items).1 in
      let its : entry_of_id later.id u.entries ≡ Some later = subst (λ id. entry_of_id id u.entries ≡ Some later) (sym (same_id e.id u.entries later found)) found in
      step_taken_up u later mark bytes head proto (run_well_formed s items well) its reusing;
}

rest_of_messages : (first : List Item) (i : Item) (rest : List Item) → AreOfMessages (first ++ i ∷ rest) → AreOfMessages rest
rest_of_messages [] i rest each = each.1
rest_of_messages (x ∷ first) i rest each = rest_of_messages first i rest each.1

learnt_is_there : (s : State) (items : List Item) (b : Backup) → AreOfMessages items → HasLearnt s items b → HasTakenOver b.learnt.items b.core.state
learnt_is_there s items b of has = λ r last.
    let t : State = b.core.state in
    let noted : Item × Reply = accepted last.sync_id r in
    let is : (last.before ++ noted ∷ last.later, t) ≡ learnt_of s items = (λ j. (sym last.cut j, t)) ∙ has.book in
    let c = cut_at s t items last.before last.later noted is in
    let u : State = (run s c.first).1 in
    let taken : IsTakenOver u last.sync_id r = record { accepted = sym c.answered; connection = last.connection } in
    let stands = stands_at s items c.first c.rest last.sync_id r c.cut has.begun taken in
    let of' = rest_of_messages c.first noted.0 c.rest (subst AreOfMessages c.cut of) in
    let end = stands_on (step u noted.0).1 t r c.rest last.later stands of' last.last c.after in
    record {
      entry = end.entry;
      found = end.found;
      recorded = end.recorded;
      goes_on = goes_on t r end.entry end.well (found_by_key t (recorded_key r) end.entry (parts_of t end.well) end.found) end.recorded;
    }

pub taken_over : (end : PairEnd) (s : State) (messages : List (List ℕ)) (b : Backup) → LearntBy end s (items_of messages) b → HasTakenOver b.learnt.items b.core.state
taken_over Finished s messages b has = learnt_is_there s (items_of messages) b (are_of_messages messages) has
taken_over NoMemory s messages b some = learnt_is_there s (take some.count (items_of messages)) b (first_of_messages some.count (items_of messages) (are_of_messages messages)) some.learnt
