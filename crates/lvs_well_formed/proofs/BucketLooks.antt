-- What is looked up in the whole list is what is looked up in a bucket.
use Rattle.std.proofs.Common.{◌≡◌, ◌&&◌, ◌<◌, ℕ, Bool, true, false, cond, List, [], ◌∷◌, Option, Some, None, refl, ◌∙◌, ap, arith, nat_le}
use Rattle.std.proofs.lemmas.Bool.{eq-eqb, both_ways, le-leb, lt-ltb}
use Rattle.std.specs.List.{AllByRecursion, find, filter}
use Rattle.lvs_types.specs.Transport.{transport_of}
use Rattle.lvs_types.specs.Protocols.{proto_code}
use Rattle.lvs_types.specs.declared.addr.Addr.{Addr}
use Rattle.lvs_types.specs.declared.bucket.Found.{Found}
use Rattle.lvs_types.specs.declared.bucket.Found.TheVariants as found
use Rattle.lvs_types.specs.declared.head.Head.{Head}
use Rattle.lvs_types.specs.declared.service.Proto.{Proto}
use Rattle.lvs_types.specs.declared.entry.Key.{Key}
use Rattle.lvs_types.specs.declared.entry.Entry.{Entry}
use Rattle.lvs_types.specs.declared.item.Item.{Item}
use Rattle.lvs_types.specs.declared.item.Item.TheVariants as item
use Rattle.lvs_types.specs.declared.sync.SyncItem.{SyncItem}
use Rattle.lvs_model.specs.State.{State}
use Rattle.lvs_model.specs.Reading.{read}
use Rattle.lvs_model.specs.Numbers.{bucket_of}
use Rattle.lvs_model.specs.Lists.{insert_by, sorted_by, least_by}
use Rattle.lvs_model.specs.Lookups.{entry_at, reply_entry, is_reply_of, has_key}
use Rattle.lvs_model.specs.Packets.{key_of}
use Rattle.lvs_model.specs.Clock.{entry_bucket, is_swept}
use Rattle.lvs_model.specs.Buckets.{is_in_bucket, entries_of, head_read, source_bucket, incoming_bucket, destination_bucket, outgoing_bucket, record_bucket, key_of_learnt, one_or_nothing, keyed_in, incoming_in, answered_in, outgoing_in, recorded_in, is_due_entry, look_in, look_at, look_up}
use Rattle.lvs_model.proofs.OrderLemmas.{IsStrict}
use Rattle.lvs_well_formed.proofs.Keys.{key_true}
use Rattle.lvs_well_formed.proofs.BucketSteps.{answered_bucket}

-- LISTS

find_part_step : {X : Type 0} (a b : Bool) (x : X) (part whole : Option X) → (a ≡ true → b ≡ true) → part ≡ whole → cond b (cond a (Some x) part) part ≡ cond a (Some x) whole
find_part_step true true x part whole passes same = refl
find_part_step false true x part whole passes same = same
find_part_step true false x part whole passes same = absurd (both_ways false refl (passes refl))
find_part_step false false x part whole passes same = same

find_of_cond : {X : Type 0} (p : X → Bool) (b : Bool) (x : X) (xs : List X) → find p (cond b (x ∷ xs) xs) ≡ cond b (cond (p x) (Some x) (find p xs)) (find p xs)
find_of_cond p true x xs = refl
find_of_cond p false x xs = refl

find_part : {X : Type 0} (p q : X → Bool) (xs : List X) → ((x : X) → p x ≡ true → q x ≡ true) → find p (filter q xs) ≡ find p xs
find_part p q [] passes = refl
find_part p q (x ∷ xs) passes = find_of_cond p (q x) x (filter q xs) ∙ find_part_step (p x) (q x) x (find p (filter q xs)) (find p xs) (passes x) (find_part p q xs passes)

filter_of_cond : {X : Type 0} (p : X → Bool) (b : Bool) (x : X) (xs : List X) → filter p (cond b (x ∷ xs) xs) ≡ cond b (cond (p x) (x ∷ filter p xs) (filter p xs)) (filter p xs)
filter_of_cond p true x xs = refl
filter_of_cond p false x xs = refl

filter_both_step : {X : Type 0} (a b : Bool) (x : X) (part both : List X) → part ≡ both → cond b (cond a (x ∷ part) part) part ≡ cond (b && a) (x ∷ both) both
filter_both_step true true x part both same = ap (λ l. x ∷ l) same
filter_both_step false true x part both same = same
filter_both_step true false x part both same = same
filter_both_step false false x part both same = same

filter_both : {X : Type 0} (p q : X → Bool) (xs : List X) → filter p (filter q xs) ≡ filter (λ x. q x && p x) xs
filter_both p q [] = refl
filter_both p q (x ∷ xs) = filter_of_cond p (q x) x (filter q xs) ∙ filter_both_step (p x) (q x) x (filter p (filter q xs)) (filter (λ y. q y && p y) xs) (filter_both p q xs)

filter_part_step : {X : Type 0} (a b : Bool) (x : X) (part whole : List X) → (a ≡ true → b ≡ true) → part ≡ whole → cond b (cond a (x ∷ part) part) part ≡ cond a (x ∷ whole) whole
filter_part_step true true x part whole passes same = ap (λ l. x ∷ l) same
filter_part_step false true x part whole passes same = same
filter_part_step true false x part whole passes same = absurd (both_ways false refl (passes refl))
filter_part_step false false x part whole passes same = same

filter_part : {X : Type 0} (p q : X → Bool) (xs : List X) → ((x : X) → p x ≡ true → q x ≡ true) → filter p (filter q xs) ≡ filter p xs
filter_part p q [] passes = refl
filter_part p q (x ∷ xs) passes = filter_of_cond p (q x) x (filter q xs) ∙ filter_part_step (p x) (q x) x (filter p (filter q xs)) (filter p xs) (passes x) (filter_part p q xs passes)

insert_first : {X : Type 0} (number : X → ℕ) (x : X) (xs : List X) → AllByRecursion (λ y. number x < number y) xs → insert_by number x xs ≡ x ∷ xs
insert_first number x [] above = refl
insert_first number x (y ∷ ys) above =
    let before : nat_le (number x) (number y) ≡ true = le-leb (number x) (number y) (omega (arith, above.0)) in
    ap (λ b. cond b (x ∷ y ∷ ys) (y ∷ insert_by number x ys)) before

-- what rises is in order
pub sorted_rising : {X : Type 0} (number : X → ℕ) (xs : List X) → IsStrict number xs → sorted_by number xs ≡ xs
sorted_rising number [] rising = refl
sorted_rising number (x ∷ xs) rising = ap (λ l. insert_by number x l) (sorted_rising number xs rising.1) ∙ insert_first number x xs rising.0

-- LOOK-UPS

-- the bucket of a key
abbrev pub bucket_of_key : ℕ → Key → ℕ
bucket_of_key buckets key = bucket_of (proto_code key.proto) key.caddr key.cport buckets

key_inside : (buckets : ℕ) (key : Key) (e : Entry) → has_key key e ≡ true → is_in_bucket buckets (bucket_of_key buckets key) e ≡ true
key_inside buckets key e is = eq-eqb (entry_bucket buckets e) (bucket_of_key buckets key) (ap (λ (k : Key). bucket_of_key buckets k) (key_true e.key key is))

pub keyed_inside : (s : State) (key : Key) → entry_at key (entries_of (bucket_of_key s.buckets key) s) ≡ entry_at key s.entries
keyed_inside s key = find_part (has_key key) (is_in_bucket s.buckets (bucket_of_key s.buckets key)) s.entries (key_inside s.buckets key)

pub answered_inside : (s : State) (proto : Proto) (daddr : Addr) (dport : ℕ) (caddr : Addr) (cport : ℕ) → reply_entry proto daddr dport caddr cport (entries_of (bucket_of (proto_code proto) caddr cport s.buckets) s) ≡ reply_entry proto daddr dport caddr cport s.entries
answered_inside s proto daddr dport caddr cport =
    let h : ℕ = bucket_of (proto_code proto) caddr cport s.buckets in
    ap (λ es. least_by (λ (e : Entry). e.id) es)
    (filter_part (is_reply_of proto daddr dport caddr cport) (is_in_bucket s.buckets h) s.entries
    (λ e is. eq-eqb (entry_bucket s.buckets e) h (answered_bucket s.buckets proto daddr dport caddr cport e is)))

pub due_inside : (s : State) (b : ℕ) → filter (is_due_entry s.now) (entries_of b s) ≡ filter (is_swept s b) s.entries
due_inside s b = filter_both (is_due_entry s.now) (is_in_bucket s.buckets b) s.entries

-- BY THE ITEM'S BUCKET

abbrev at_home : (ℕ → Found) → Option ℕ → Found
at_home f None = found.Nothing
at_home f (Some b) = f b

look_at_home : (s : State) (i : Item) (o : Option ℕ) → look_at s i o ≡ at_home (λ b. look_in s.now i (entries_of b s)) o
look_at_home s i None = refl
look_at_home s i (Some b) = refl

keyed_home : (s : State) (head : Head) (o : Option Proto) → at_home (λ b. one_or_nothing (keyed_in (entries_of b s) head o)) (source_bucket s.buckets head o) ≡ one_or_nothing (keyed_in s.entries head o)
keyed_home s head None = refl
keyed_home s head (Some proto) = ap one_or_nothing (keyed_inside s (key_of proto head))

incoming_home : (s : State) (o : Option Head) → at_home (λ b. one_or_nothing (incoming_in (entries_of b s) o)) (incoming_bucket s.buckets o) ≡ one_or_nothing (incoming_in s.entries o)
incoming_home s None = refl
incoming_home s (Some head) = keyed_home s head (transport_of head)

pub incoming_found : (s : State) (mark : ℕ) (bytes : List ℕ) → look_up s (item.Incoming mark bytes) ≡ look_in s.now (item.Incoming mark bytes) s.entries
incoming_found s mark bytes = look_at_home s (item.Incoming mark bytes) (incoming_bucket s.buckets (head_read (read bytes))) ∙ incoming_home s (head_read (read bytes))

answered_home : (s : State) (head : Head) (o : Option Proto) → at_home (λ b. one_or_nothing (answered_in (entries_of b s) head o)) (destination_bucket s.buckets head o) ≡ one_or_nothing (answered_in s.entries head o)
answered_home s head None = refl
answered_home s head (Some proto) = ap one_or_nothing (answered_inside s proto head.src head.sport head.dst head.dport)

outgoing_home : (s : State) (o : Option Head) → at_home (λ b. one_or_nothing (outgoing_in (entries_of b s) o)) (outgoing_bucket s.buckets o) ≡ one_or_nothing (outgoing_in s.entries o)
outgoing_home s None = refl
outgoing_home s (Some head) = answered_home s head (transport_of head)

pub outgoing_found : (s : State) (bytes : List ℕ) → look_up s (item.Outgoing bytes) ≡ look_in s.now (item.Outgoing bytes) s.entries
outgoing_found s bytes = look_at_home s (item.Outgoing bytes) (outgoing_bucket s.buckets (head_read (read bytes))) ∙ outgoing_home s (head_read (read bytes))

recorded_home : (s : State) (o : Option Key) → at_home (λ b. one_or_nothing (recorded_in (entries_of b s) o)) (record_bucket s.buckets o) ≡ one_or_nothing (recorded_in s.entries o)
recorded_home s None = refl
recorded_home s (Some key) = ap one_or_nothing (keyed_inside s key)

pub learnt_found : (s : State) (sync_id : ℕ) (i : SyncItem) → look_up s (item.Learn sync_id i) ≡ look_in s.now (item.Learn sync_id i) s.entries
learnt_found s sync_id i = look_at_home s (item.Learn sync_id i) (record_bucket s.buckets (key_of_learnt i)) ∙ recorded_home s (key_of_learnt i)

pub swept_found : (s : State) (b : ℕ) → b < s.buckets → look_up s (item.Sweep b) ≡ found.Due (filter (is_swept s b) s.entries)
swept_found s b there =
    ap (λ (c : Bool). look_at s (item.Sweep b) (cond c (Some b) None)) (lt-ltb b s.buckets there) ∙ ap (λ es. found.Due es) (due_inside s b)
