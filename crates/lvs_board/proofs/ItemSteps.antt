-- What the step of an item is to its bucket, from the definitions.
use Rattle.std.proofs.Common.{◌≡◌, ◌+◌, ◌<◌, ◌≤◌, ℕ, Bool, true, false, cond, not, List, [], ◌∷◌, ◌++◌, Option, Some, None, Result, Ok, Err, refl, sym, ◌∙◌, ap, subst, arith, take, length, nat_lt}
use Rattle.std.proofs.lemmas.Bool.{eq-eqb, eqb-true, lt-ltb}
use Rattle.std.specs.List.{AllByRecursion, find, filter}
use Rattle.lvs_types.specs.Transport.{transport_of}
use Rattle.lvs_types.specs.Protocols.{proto_of_code}
use Rattle.lvs_types.specs.declared.bucket.Change.{Change}
use Rattle.lvs_types.specs.declared.bucket.Change.TheVariants.{Keep, Put, Update, End, Swap, EndDue}
use Rattle.lvs_types.specs.declared.head.Head.{Head}
use Rattle.lvs_types.specs.declared.head.Malformed.{Malformed}
use Rattle.lvs_types.specs.declared.service.Proto.{Proto}
use Rattle.lvs_types.specs.declared.entry.Direction.TheVariants.{Output}
use Rattle.lvs_types.specs.declared.entry.Key.{Key}
use Rattle.lvs_types.specs.declared.entry.Entry.{Entry}
use Rattle.lvs_types.specs.declared.sync.SyncRecord.{SyncRecord}
use Rattle.lvs_types.specs.declared.sync.SyncItem.{SyncItem}
use Rattle.lvs_types.specs.declared.sync.SyncItem.TheVariants.{V4, V6}
use Rattle.lvs_types.specs.declared.sync.Learnt.{Learnt}
use Rattle.lvs_types.specs.declared.sync.Learnt.TheVariants as learnt
use Rattle.lvs_types.specs.declared.item.Item.{Item}
use Rattle.lvs_types.specs.declared.item.Item.TheVariants as item
use Rattle.lvs_model.specs.State.{State}
use Rattle.lvs_model.specs.Lists.{without}
use Rattle.lvs_model.specs.Lookups.{entry_at, has_key, has_entry_id, reply_entry, is_reply_of}
use Rattle.lvs_model.specs.Reading.{read}
use Rattle.lvs_model.specs.Packets.{Packet, key_of}
use Rattle.lvs_model.specs.Forwarding.{in_state, state_after}
use Rattle.lvs_model.specs.Incoming.{incoming_of, incoming_read}
use Rattle.lvs_model.specs.Outgoing.{answer_out, outgoing_of, outgoing_read}
use Rattle.lvs_model.specs.SyncRules.{accept, is_template_record}
use Rattle.lvs_model.specs.Learning.{recorded_key, recorded_template_key, learn_template, learn_connection, learn_item, learn_by}
use Rattle.lvs_model.specs.Lookups.{template_at}
use Rattle.lvs_model.specs.Clock.{is_swept}
use Rattle.lvs_model.specs.Step.{step}
use Rattle.lvs_model.specs.WellFormed.{IsWellFormed, IsDrawn}
use Rattle.lvs_model.specs.Buckets.{is_in_bucket, entries_of, head_read, home, source_bucket, incoming_bucket, record_bucket, key_of_proto, key_of_learnt, one_or_nothing, keyed_in, incoming_in, answered_in, outgoing_in, recorded_in, look_in, look_at, look_up, Carries, CarriesAt}
use Rattle.lvs_well_formed.specs.Moments.{moment_after}
use Rattle.lvs_well_formed.proofs.Lists.{all_weaker, all_passing, all_filter, all_update, all_find, all_unmap, find_passes}
use Rattle.lvs_well_formed.proofs.Keys.{key_true}
use Rattle.lvs_well_formed.proofs.Parts.{Parts, parts_of}
use Rattle.lvs_well_formed.proofs.Steps.{step_after}
use Rattle.lvs_well_formed.proofs.Entries.{entries_found}
use Rattle.lvs_well_formed.proofs.Packets.{all_least}
use Rattle.lvs_well_formed.proofs.BucketLooks.{bucket_of_key}
use Rattle.lvs_well_formed.proofs.BucketSteps.{Local, step_local, step_base}
use Rattle.lvs_rules.specs.Finds.{entry_in}
use Rattle.lvs_board.specs.Desks.{after, IsOfItem}
use Rattle.lvs_board.specs.Homes.{id_of, sweep_of, IsSweptAt}
use Rattle.lvs_board.proofs.NewKeys.{AreNew, none_new, packet_new, connection_new}
use Rattle.lvs_board.proofs.Carried.{IsAnew, IsStep, Takes, takes}

-- WHAT WAS FOUND IS IN THE BUCKET

abbrev IsInside : State → ℕ → Entry → Type 0
IsInside s b x = (find (has_entry_id x.id) s.entries ≡ Some x) × (is_in_bucket s.buckets b x ≡ true)

all_inside : (s : State) (b : ℕ) → Parts s → AllByRecursion (IsInside s b) (entries_of b s)
all_inside s b parts =
    all_passing (λ (x : Entry). find (has_entry_id x.id) s.entries ≡ Some x) (IsInside s b) (is_in_bucket s.buckets b) s.entries (λ x here is. (is, here)) (entries_found s parts)

one_in : (o : Option Entry) → entry_in (one_or_nothing o) ≡ o
one_in None = refl
one_in (Some e) = refl

keyed_inside : (s : State) (b : ℕ) (head : Head) (x : Entry) (o : Option Proto) → AllByRecursion (IsInside s b) (entries_of b s) → keyed_in (entries_of b s) head o ≡ Some x → IsInside s b x
keyed_inside s b head x None each is = absurd cc
keyed_inside s b head x (Some proto) each is = all_find (IsInside s b) (has_key (key_of proto head)) (entries_of b s) x each is

incoming_inside : (s : State) (b : ℕ) (x : Entry) (o : Option Head) → AllByRecursion (IsInside s b) (entries_of b s) → incoming_in (entries_of b s) o ≡ Some x → IsInside s b x
incoming_inside s b x None each is = absurd cc
incoming_inside s b x (Some head) each is = keyed_inside s b head x (transport_of head) each is

answered_inside : (s : State) (b : ℕ) (head : Head) (x : Entry) (o : Option Proto) → AllByRecursion (IsInside s b) (entries_of b s) → answered_in (entries_of b s) head o ≡ Some x → IsInside s b x
answered_inside s b head x None each is = absurd cc
answered_inside s b head x (Some proto) each is =
    let test : Entry → Bool = is_reply_of proto head.src head.sport head.dst head.dport in
    all_least (IsInside s b) (filter test (entries_of b s)) x (all_filter (IsInside s b) test (entries_of b s) each) is

outgoing_inside : (s : State) (b : ℕ) (x : Entry) (o : Option Head) → AllByRecursion (IsInside s b) (entries_of b s) → outgoing_in (entries_of b s) o ≡ Some x → IsInside s b x
outgoing_inside s b x None each is = absurd cc
outgoing_inside s b x (Some head) each is = answered_inside s b head x (transport_of head) each is

recorded_inside : (s : State) (b : ℕ) (x : Entry) (o : Option Key) → AllByRecursion (IsInside s b) (entries_of b s) → recorded_in (entries_of b s) o ≡ Some x → IsInside s b x
recorded_inside s b x None each is = absurd cc
recorded_inside s b x (Some key) each is = all_find (IsInside s b) (has_key key) (entries_of b s) x each is

found_inside : (s : State) (b : ℕ) (i : Item) (x : Entry) → AllByRecursion (IsInside s b) (entries_of b s) → entry_in (look_in s.now i (entries_of b s)) ≡ Some x → IsInside s b x
found_inside s b (item.Incoming mark bytes) x each is = incoming_inside s b x (head_read (read bytes)) each (sym (one_in (incoming_in (entries_of b s) (head_read (read bytes)))) ∙ is)
found_inside s b (item.Outgoing bytes) x each is = outgoing_inside s b x (head_read (read bytes)) each (sym (one_in (outgoing_in (entries_of b s) (head_read (read bytes)))) ∙ is)
found_inside s b (item.Edit command) x each is = absurd cc
found_inside s b (item.Set setting) x each is = absurd cc
found_inside s b (item.Learn sync_id record_item) x each is = recorded_inside s b x (key_of_learnt record_item) each (sym (one_in (recorded_in (entries_of b s) (key_of_learnt record_item))) ∙ is)
found_inside s b (item.BadSync why) x each is = absurd cc
found_inside s b (item.Tick moment) x each is = absurd cc
found_inside s b (item.Sweep bucket) x each is = absurd cc
found_inside s b item.Reap x each is = absurd cc
found_inside s b item.SendSync x each is = absurd cc

look_inside_at : (s : State) (i : Item) (x : Entry) (o : Option ℕ) → Parts s → entry_in (look_at s i o) ≡ Some x → find (has_entry_id x.id) s.entries ≡ Some x
look_inside_at s i x None parts is = absurd cc
look_inside_at s i x (Some b) parts is = (found_inside s b i x (all_inside s b parts) is).0

-- the entry that an item found is there
pub look_inside : (s : State) (i : Item) (x : Entry) → Parts s → entry_in (look_up s i) ≡ Some x → find (has_entry_id x.id) s.entries ≡ Some x
look_inside s i x parts is = look_inside_at s i x (home s.buckets i) parts is

-- WHAT IS NEW

abbrev AreBelow : ℕ → List Entry → Type 0
AreBelow next es = AllByRecursion (λ (e : Entry). e.id < next) es

no_new : (s : State) (b : ℕ) (o : Option Entry) (es : List Entry) → AreBelow s.next_entry es → AllByRecursion (IsAnew s b o) es
no_new s b o es below = all_weaker (λ (e : Entry). e.id < s.next_entry) (IsAnew s b o) es (λ e young from. absurd (omega (arith, young, from))) below

new_of_key : (s t : State) (b : ℕ) (o : Option Entry) (key : Key) → bucket_of_key s.buckets key ≡ b → ((x : Entry) → o ≡ Some x → x.key ≡ key) → AreNew s.next_entry key t → AllByRecursion (IsAnew s b o) t.entries
new_of_key s t b o key is keyed each =
    all_weaker (λ (e : Entry). s.next_entry ≤ e.id → e.key ≡ key) (IsAnew s b o) t.entries
    (λ e own from.
    let same : e.key ≡ key = own from in
    (eq-eqb (bucket_of_key s.buckets e.key) b (ap (λ (k : Key). bucket_of_key s.buckets k) same ∙ is), λ x here. same ∙ sym (keyed x here))) each

keyed_by : (key : Key) (es : List Entry) (x : Entry) → entry_at key es ≡ Some x → x.key ≡ key
keyed_by key es x is = key_true x.key key (find_passes (has_key key) es x is)

some_of : (a b : ℕ) → Some a ≡ Some b → a ≡ b
some_of a b is = cc

incoming_by : (s : State) (b mark : ℕ) (head : Head) (bytes : List ℕ) (o : Option Proto) → AreBelow s.next_entry s.entries → source_bucket s.buckets head o ≡ Some b
    → AllByRecursion (IsAnew s b (keyed_in (entries_of b s) head o)) (incoming_of s mark head bytes o).1.entries
incoming_by s b mark head bytes None below is = absurd cc
incoming_by s b mark head bytes (Some proto) below is =
    let p : Packet = record { mark = mark; proto = proto; head = head; bytes = take head.total bytes } in
    let key : Key = key_of proto head in
    new_of_key s (incoming_of s mark head bytes (Some proto)).1 b (entry_at key (entries_of b s)) key (some_of (bucket_of_key s.buckets key) b is) (keyed_by key (entries_of b s))
    (packet_new s.next_entry s p (none_new s.next_entry key s.entries below))

incoming_anew : (s : State) (b mark : ℕ) (bytes : List ℕ) (r : Result Head Malformed) → AreBelow s.next_entry s.entries → incoming_bucket s.buckets (head_read r) ≡ Some b
    → AllByRecursion (IsAnew s b (incoming_in (entries_of b s) (head_read r))) (incoming_read s mark bytes r).1.entries
incoming_anew s b mark bytes (Err why) below is = absurd cc
incoming_anew s b mark bytes (Ok head) below is = incoming_by s b mark head bytes (transport_of head) below is

-- an answer makes no new entry
answer_below : (s : State) (head : Head) (bytes : List ℕ) (o : Option Entry) → AreBelow s.next_entry s.entries → AreBelow s.next_entry (answer_out s head bytes o).1.entries
answer_below s head bytes None below = below
answer_below s head bytes (Some e) below =
    let v : Entry = in_state s.settings s.now (state_after e.state Output head) e in
    all_update (λ (x : Entry). x.id < s.next_entry) (has_entry_id v.id) (λ _. v) s.entries (λ x here young. subst (λ n. n < s.next_entry) (eqb-true x.id v.id here) young) below

outgoing_by : (s : State) (head : Head) (bytes : List ℕ) (o : Option Proto) → AreBelow s.next_entry s.entries → AreBelow s.next_entry (outgoing_of s head bytes o).1.entries
outgoing_by s head bytes None below = below
outgoing_by s head bytes (Some proto) below = answer_below s head (take head.total bytes) (reply_entry proto head.src head.sport head.dst head.dport s.entries) below

outgoing_below : (s : State) (bytes : List ℕ) (r : Result Head Malformed) → AreBelow s.next_entry s.entries → AreBelow s.next_entry (outgoing_read s bytes r).1.entries
outgoing_below s bytes (Err why) below = below
outgoing_below s bytes (Ok head) below = outgoing_by s head bytes (transport_of head) below

proto_anew : (s : State) (b : ℕ) (r : SyncRecord) (o : Option Proto) → AreBelow s.next_entry s.entries → record_bucket s.buckets (key_of_proto r o) ≡ Some b
    → AllByRecursion (IsAnew s b (recorded_in (entries_of b s) (key_of_proto r o))) (learn_connection s r (entry_at (recorded_key r) s.entries)).entries
proto_anew s b r None below is = absurd cc
proto_anew s b r (Some proto) below is =
    let key : Key = recorded_key r in
    new_of_key s (learn_connection s r (entry_at key s.entries)) b (entry_at key (entries_of b s)) key (some_of (bucket_of_key s.buckets key) b is) (keyed_by key (entries_of b s))
    (connection_new s.next_entry s r (entry_at key s.entries) refl (none_new s.next_entry key s.entries below))

record_anew : (s : State) (b : ℕ) (r : SyncRecord) (template : Bool) → AreBelow s.next_entry s.entries → record_bucket s.buckets (cond template None (key_of_proto r (proto_of_code r.code))) ≡ Some b
    → AllByRecursion (IsAnew s b (recorded_in (entries_of b s) (cond template None (key_of_proto r (proto_of_code r.code)))))
    (cond template (learn_template s r (template_at (recorded_template_key r) s.templates)) (learn_connection s r (entry_at (recorded_key r) s.entries))).entries
record_anew s b r true below is = absurd cc
record_anew s b r false below is = proto_anew s b r (proto_of_code r.code) below is

learnt_anew : (s : State) (b : ℕ) (i : SyncItem) → AreBelow s.next_entry s.entries → record_bucket s.buckets (key_of_learnt i) ≡ Some b
    → AllByRecursion (IsAnew s b (recorded_in (entries_of b s) (key_of_learnt i))) (learn_item s i).entries
learnt_anew s b V6 below is = absurd cc
learnt_anew s b (V4 r) below is = record_anew s b r (is_template_record r) below is

accepted_anew : (s : State) (b : ℕ) (i : SyncItem) (a : Learnt) → AreBelow s.next_entry s.entries → record_bucket s.buckets (key_of_learnt i) ≡ Some b
    → AllByRecursion (IsAnew s b (recorded_in (entries_of b s) (key_of_learnt i))) (learn_by s i a).1.entries
accepted_anew s b i learnt.Accepted below is = learnt_anew s b i below is
accepted_anew s b i learnt.Off below is = no_new s b (recorded_in (entries_of b s) (key_of_learnt i)) s.entries below
accepted_anew s b i learnt.OtherId below is = no_new s b (recorded_in (entries_of b s) (key_of_learnt i)) s.entries below
accepted_anew s b i learnt.V6 below is = no_new s b (recorded_in (entries_of b s) (key_of_learnt i)) s.entries below
accepted_anew s b i learnt.BadProto below is = no_new s b (recorded_in (entries_of b s) (key_of_learnt i)) s.entries below
accepted_anew s b i learnt.BadState below is = no_new s b (recorded_in (entries_of b s) (key_of_learnt i)) s.entries below
accepted_anew s b i learnt.BadMethod below is = no_new s b (recorded_in (entries_of b s) (key_of_learnt i)) s.entries below

as_one : (s : State) (b : ℕ) (o : Option Entry) (es : List Entry) → AllByRecursion (IsAnew s b o) es → AllByRecursion (IsAnew s b (entry_in (one_or_nothing o))) es
as_one s b o es each = subst (λ (p : Option Entry). AllByRecursion (IsAnew s b p) es) (sym (one_in o)) each

step_anew : (s : State) (b : ℕ) (i : Item) → AreBelow s.next_entry s.entries → home s.buckets i ≡ Some b → AllByRecursion (IsAnew s b (entry_in (look_in s.now i (entries_of b s)))) (step s i).1.entries
step_anew s b (item.Incoming mark bytes) below is = as_one s b (incoming_in (entries_of b s) (head_read (read bytes))) (step s (item.Incoming mark bytes)).1.entries (incoming_anew s b mark bytes (read bytes) below is)
step_anew s b (item.Outgoing bytes) below is =
    no_new s b (entry_in (look_in s.now (item.Outgoing bytes) (entries_of b s))) (step s (item.Outgoing bytes)).1.entries (outgoing_below s bytes (read bytes) below)
step_anew s b (item.Edit command) below is = absurd cc
step_anew s b (item.Set setting) below is = absurd cc
step_anew s b (item.Learn sync_id record_item) below is =
    as_one s b (recorded_in (entries_of b s) (key_of_learnt record_item)) (step s (item.Learn sync_id record_item)).1.entries (accepted_anew s b record_item (accept s.daemons.backup sync_id record_item) below is)
step_anew s b (item.BadSync why) below is = absurd cc
step_anew s b (item.Tick moment) below is = absurd cc
step_anew s b (item.Sweep bucket) below is =
    no_new s b None (without (is_swept s bucket) s.entries) (all_filter (λ (e : Entry). e.id < s.next_entry) (λ (e : Entry). not (is_swept s bucket e)) s.entries below)
step_anew s b item.Reap below is = absurd cc
step_anew s b item.SendSync below is = absurd cc

-- THE ITEM OF A BUCKET

all_below : (s : State) → Parts s → AreBelow s.next_entry s.entries
all_below s parts =
    all_weaker (λ (e : Entry). IsDrawn s.next_entry e.id) (λ (e : Entry). e.id < s.next_entry) s.entries (λ e drawn. drawn.1)
    (all_unmap (IsDrawn s.next_entry) (λ (e : Entry). e.id) s.entries parts.entries.ids.each)

step_is : (s : State) (b : ℕ) (i : Item) → Parts s → home s.buckets i ≡ Some b → IsStep s (step s i).1 b (entry_in (look_in s.now i (entries_of b s)))
step_is s b i parts is = record {
  buckets = (step_base s i parts).1;
  below = all_below s parts;
  keys = (step_after s i parts).parts.entries.keys;
  found = λ x here. found_inside s b i x (all_inside s b parts) here;
  anew = step_anew s b i (all_below s parts) is;
}

-- the sweep of a bucket that is there is of that bucket
swept_home : (k bucket b : ℕ) (there : Bool) → Some bucket ≡ Some k → cond there (Some bucket) None ≡ Some b → k ≡ b
swept_home k bucket b true own is = sym (some_of bucket k own) ∙ some_of bucket b is
swept_home k bucket b false own is = absurd cc

own_bucket : (buckets k b : ℕ) (i : Item) → home buckets i ≡ Some b → sweep_of i ≡ Some k → k ≡ b
own_bucket buckets k b (item.Sweep bucket) is own = swept_home k bucket b (nat_lt bucket buckets) own is
own_bucket buckets k b (item.Incoming mark bytes) is own = absurd cc
own_bucket buckets k b (item.Outgoing bytes) is own = absurd cc
own_bucket buckets k b (item.Edit command) is own = absurd cc
own_bucket buckets k b (item.Set setting) is own = absurd cc
own_bucket buckets k b (item.Learn sync_id record_item) is own = absurd cc
own_bucket buckets k b (item.BadSync why) is own = absurd cc
own_bucket buckets k b (item.Tick moment) is own = absurd cc
own_bucket buckets k b item.Reap is own = absurd cc
own_bucket buckets k b item.SendSync is own = absurd cc

in_bucket : (s : State) (i : Item) (k b : ℕ) (change : Change) → Parts s → home s.buckets i ≡ Some b → IsOfItem s (id_of (entry_in (look_in s.now i (entries_of b s)))) change → IsSweptAt (sweep_of i) s.buckets k change
    → after (is_swept s k) change s.entries ≡ (step s i).1.entries → CarriesAt (Some b) s i change
in_bucket s i k b change parts here of swept is =
    let t : State = (step s i).1 in
    let o : Option Entry = entry_in (look_in s.now i (entries_of b s)) in
    let known = step_is s b i parts here in
    let took : Takes s b change (after (is_swept s k) change s.entries) = takes s t b k o (sweep_of i) change known (λ own. own_bucket s.buckets k b i here own) of swept is in
    record {
      fits = took.fits;
      carried = ap (λ n. filter (is_in_bucket n b) t.entries) known.buckets ∙ ap (λ es. filter (is_in_bucket s.buckets b) es) (sym is) ∙ took.carried;
    }

-- AN ITEM OF NO BUCKET

longer : (e : Entry) (es : List Entry) → length (es ++ e ∷ []) ≡ length es + 1
longer e [] = refl
longer e (x ∷ es) = omega (arith, longer e es)

never_more : (e : Entry) (es : List Entry) → es ++ e ∷ [] ≡ es → Keep ≡ Put e
never_more e es is = absurd (let count = longer e es in let same : length (es ++ e ∷ []) ≡ length es = ap (λ (xs : List Entry). length xs) is in omega (arith, count, same))

swept_there : (k bucket buckets : ℕ) → Some bucket ≡ Some k → k < buckets → cond (nat_lt bucket buckets) (Some bucket) None ≡ Some bucket
swept_there k bucket buckets own there =
    let same = some_of bucket k own in ap (λ (b : Bool). cond b (Some bucket) None) (lt-ltb bucket buckets (subst (λ n. n < buckets) (sym same) there))

never_swept : (buckets k moment : ℕ) (i : Item) → home buckets i ≡ None → sweep_of i ≡ Some k → k < buckets → EndDue moment ≡ Keep
never_swept buckets k moment (item.Sweep bucket) is own there = absurd (let h : None ≡ Some bucket = sym is ∙ swept_there k bucket buckets own there in cc)
never_swept buckets k moment (item.Incoming mark bytes) is own there = absurd cc
never_swept buckets k moment (item.Outgoing bytes) is own there = absurd cc
never_swept buckets k moment (item.Edit command) is own there = absurd cc
never_swept buckets k moment (item.Set setting) is own there = absurd cc
never_swept buckets k moment (item.Learn sync_id record_item) is own there = absurd cc
never_swept buckets k moment (item.BadSync why) is own there = absurd cc
never_swept buckets k moment (item.Tick moment_after_it) is own there = absurd cc
never_swept buckets k moment item.Reap is own there = absurd cc
never_swept buckets k moment item.SendSync is own there = absurd cc

keeps : (s : State) (i : Item) (k : ℕ) (change : Change) → home s.buckets i ≡ None → IsOfItem s None change → IsSweptAt (sweep_of i) s.buckets k change → after (is_swept s k) change s.entries ≡ s.entries → change ≡ Keep
keeps s i k Keep none of swept is = refl
keeps s i k (Put e) none of swept is = sym (never_more e s.entries is)
keeps s i k (Update e) none of swept is = absurd (let h : None ≡ Some e.id = of.0 in cc)
keeps s i k (End id) none of swept is = absurd (let h : None ≡ Some id = of in cc)
keeps s i k (Swap id e) none of swept is = absurd (let h : None ≡ Some id = of.0 in cc)
keeps s i k (EndDue moment) none of swept is = never_swept s.buckets k moment i none swept.0 swept.1

nowhere : (s : State) (i : Item) (k : ℕ) (change : Change) → 0 < s.buckets → Parts s → home s.buckets i ≡ None → IsOfItem s None change → IsSweptAt (sweep_of i) s.buckets k change
    → after (is_swept s k) change s.entries ≡ (step s i).1.entries → change ≡ Keep
nowhere s i k change some parts none of swept is =
    let still = subst (λ (o : Option ℕ). Local (record s { now = moment_after s.now i }) o (step s i).1) none (step_local s i some parts) in
    keeps s i k change none of swept (is ∙ still.entries)

-- BY THE ITEM'S BUCKET

by_home : (s : State) (i : Item) (k : ℕ) (change : Change) (o : Option ℕ) → home s.buckets i ≡ o → 0 < s.buckets → Parts s → IsOfItem s (id_of (entry_in (look_at s i o))) change → IsSweptAt (sweep_of i) s.buckets k change
    → after (is_swept s k) change s.entries ≡ (step s i).1.entries → CarriesAt o s i change
by_home s i k change None here some parts of swept is = nowhere s i k change some parts here of swept is
by_home s i k change (Some b) here some parts of swept is = in_bucket s i k b change parts here of swept is

pub carries : (s : State) (i : Item) (k : ℕ) (change : Change) → IsWellFormed s → 0 < s.buckets → IsOfItem s (id_of (entry_in (look_up s i))) change → IsSweptAt (sweep_of i) s.buckets k change
    → after (is_swept s k) change s.entries ≡ (step s i).1.entries → Carries s i change
carries s i k change well some of swept is = by_home s i k change (home s.buckets i) refl some (parts_of s well) of swept is
