-- Buckets: which entries are in one, which one an item is of, what the item finds there, and what a change makes of it (this project's profile).
use Rattle.std.specs.Prelude.{ℕ, ◌≡◌, ◌<◌, Bool, true, false, ◌==◌, List, [], ◌∷◌, ◌++◌, Option, Some, None, is_some, Result, Ok, Err, if◌then◌else◌, nat_le, nat_lt}
use Rattle.std.specs.List.{filter, find, AllByRecursion}
use Rattle.lvs_types.specs.Transport.{transport_of}
use Rattle.lvs_types.specs.Protocols.{proto_code, proto_of_code}
use Rattle.lvs_types.specs.declared.head.Head.{Head}
use Rattle.lvs_types.specs.declared.head.Malformed.{Malformed}
use Rattle.lvs_types.specs.declared.service.Proto.{Proto}
use Rattle.lvs_types.specs.declared.entry.Key.{Key}
use Rattle.lvs_types.specs.declared.entry.Entry.{Entry}
use Rattle.lvs_types.specs.declared.sync.SyncItem.{SyncItem}
use Rattle.lvs_types.specs.declared.sync.SyncItem.TheVariants.{V4, V6}
use Rattle.lvs_types.specs.declared.sync.SyncRecord.{SyncRecord}
use Rattle.lvs_types.specs.declared.item.Item.{Item}
use Rattle.lvs_types.specs.declared.item.Item.TheVariants as item
use Rattle.lvs_types.specs.declared.bucket.Found.{Found}
use Rattle.lvs_types.specs.declared.bucket.Found.TheVariants as found
use Rattle.lvs_types.specs.declared.bucket.Change.{Change}
use Rattle.lvs_types.specs.declared.bucket.Change.TheVariants as changes
use Rattle.lvs_model.specs.State.{State}
use Rattle.lvs_model.specs.Lists.{without}
use Rattle.lvs_model.specs.Reading.{read}
use Rattle.lvs_model.specs.Numbers.{bucket_of}
use Rattle.lvs_model.specs.Lookups.{has_key, has_entry_id, entry_at, reply_entry}
use Rattle.lvs_model.specs.SyncRules.{is_template_record}
use Rattle.lvs_model.specs.Binding.{put_entry}
use Rattle.lvs_model.specs.Packets.{key_of}
use Rattle.lvs_model.specs.Learning.{recorded_key}
use Rattle.lvs_model.specs.Clock.{entry_bucket}
use Rattle.lvs_model.specs.Step.{step}

-- THE ENTRIES OF A BUCKET

-- of so many buckets the entry is in this one
abbrev pub is_in_bucket : ℕ → ℕ → Entry → Bool
is_in_bucket buckets bucket e = entry_bucket buckets e == bucket

-- the entries of a bucket, as they stand in the list
abbrev pub entries_of : ℕ → State → List Entry
entries_of bucket s = filter (is_in_bucket s.buckets bucket) s.entries

-- WHAT AN ITEM IS ABOUT

-- what the headers of a packet say, nothing where it can't be read
abbrev pub head_read : Result Head Malformed → Option Head
head_read (Err why) = None
head_read (Ok head) = Some head

-- what the headers of the item's packet say, nothing where it is no packet
abbrev pub head_of_item : Item → Option Head
head_of_item (item.Incoming mark bytes) = head_read (read bytes)
head_of_item (item.Outgoing bytes) = head_read (read bytes)
head_of_item (item.Edit command) = None
head_of_item (item.Set setting) = None
head_of_item (item.Learn sync_id record_item) = None
head_of_item (item.BadSync why) = None
head_of_item (item.Tick moment) = None
head_of_item (item.Sweep bucket) = None
head_of_item item.Reap = None
head_of_item item.SendSync = None

-- the key of a connection's record, by its protocol
abbrev pub key_of_proto : SyncRecord → Option Proto → Option Key
key_of_proto r None = None
key_of_proto r (Some proto) = Some (recorded_key r)

-- the key of a record, none where it is a template's or its protocol is neither TCP nor UDP
abbrev pub key_of_record : SyncRecord → Option Key
key_of_record r = if is_template_record r then None else key_of_proto r (proto_of_code r.code)

abbrev pub key_of_learnt : SyncItem → Option Key
key_of_learnt V6 = None
key_of_learnt (V4 r) = key_of_record r

-- THE BUCKET OF AN ITEM

-- an incoming packet is of the bucket of its source
abbrev pub source_bucket : ℕ → Head → Option Proto → Option ℕ
source_bucket buckets head None = None
source_bucket buckets head (Some proto) = Some (bucket_of (proto_code proto) head.src head.sport buckets)

abbrev pub incoming_bucket : ℕ → Option Head → Option ℕ
incoming_bucket buckets None = None
incoming_bucket buckets (Some head) = source_bucket buckets head (transport_of head)

-- an outgoing packet is of the bucket of its destination
abbrev pub destination_bucket : ℕ → Head → Option Proto → Option ℕ
destination_bucket buckets head None = None
destination_bucket buckets head (Some proto) = Some (bucket_of (proto_code proto) head.dst head.dport buckets)

abbrev pub outgoing_bucket : ℕ → Option Head → Option ℕ
outgoing_bucket buckets None = None
outgoing_bucket buckets (Some head) = destination_bucket buckets head (transport_of head)

-- a record is of the bucket of its client
abbrev pub record_bucket : ℕ → Option Key → Option ℕ
record_bucket buckets None = None
record_bucket buckets (Some key) = Some (bucket_of (proto_code key.proto) key.caddr key.cport buckets)

-- the bucket of an item, where it has one: a packet that can be read, unfragmented TCP or UDP; the record of a connection; the sweep of a bucket that there is
abbrev pub home : ℕ → Item → Option ℕ
home buckets (item.Incoming mark bytes) = incoming_bucket buckets (head_read (read bytes))
home buckets (item.Outgoing bytes) = outgoing_bucket buckets (head_read (read bytes))
home buckets (item.Edit command) = None
home buckets (item.Set setting) = None
home buckets (item.Learn sync_id record_item) = record_bucket buckets (key_of_learnt record_item)
home buckets (item.BadSync why) = None
home buckets (item.Tick moment) = None
home buckets (item.Sweep bucket) = if nat_lt bucket buckets then Some bucket else None
home buckets item.Reap = None
home buckets item.SendSync = None

-- WHAT AN ITEM FINDS

abbrev pub one_or_nothing : Option Entry → Found
one_or_nothing None = found.Nothing
one_or_nothing (Some e) = found.One e

-- an incoming packet finds the entry of its key
abbrev pub keyed_in : List Entry → Head → Option Proto → Option Entry
keyed_in entries head None = None
keyed_in entries head (Some proto) = entry_at (key_of proto head) entries

abbrev pub incoming_in : List Entry → Option Head → Option Entry
incoming_in entries None = None
incoming_in entries (Some head) = keyed_in entries head (transport_of head)

-- an outgoing packet finds the entry of its reply tuple
abbrev pub answered_in : List Entry → Head → Option Proto → Option Entry
answered_in entries head None = None
answered_in entries head (Some proto) = reply_entry proto head.src head.sport head.dst head.dport entries

abbrev pub outgoing_in : List Entry → Option Head → Option Entry
outgoing_in entries None = None
outgoing_in entries (Some head) = answered_in entries head (transport_of head)

-- a record finds the entry of its key
abbrev pub recorded_in : List Entry → Option Key → Option Entry
recorded_in entries None = None
recorded_in entries (Some key) = entry_at key entries

-- its deadline is now or was before
abbrev pub is_due_entry : ℕ → Entry → Bool
is_due_entry now e = nat_le e.deadline now

-- what an item finds among these entries at the moment; a sweep finds all that are due, in the order of the list
abbrev pub look_in : ℕ → Item → List Entry → Found
look_in now (item.Incoming mark bytes) entries = one_or_nothing (incoming_in entries (head_read (read bytes)))
look_in now (item.Outgoing bytes) entries = one_or_nothing (outgoing_in entries (head_read (read bytes)))
look_in now (item.Edit command) entries = found.Nothing
look_in now (item.Set setting) entries = found.Nothing
look_in now (item.Learn sync_id record_item) entries = one_or_nothing (recorded_in entries (key_of_learnt record_item))
look_in now (item.BadSync why) entries = found.Nothing
look_in now (item.Tick moment) entries = found.Nothing
look_in now (item.Sweep bucket) entries = found.Due (filter (is_due_entry now) entries)
look_in now item.Reap entries = found.Nothing
look_in now item.SendSync entries = found.Nothing

-- by the item's bucket
abbrev pub look_at : State → Item → Option ℕ → Found
look_at s item None = found.Nothing
look_at s item (Some bucket) = look_in s.now item (entries_of bucket s)

-- what an item finds in its bucket, nothing where it has none
abbrev pub look_up : State → Item → Found
look_up s item = look_at s item (home s.buckets item)

-- CHANGES

-- what a change makes of a list of entries by id; a new entry has the highest id, so it stands last
abbrev pub changed_by : Change → List Entry → List Entry
changed_by changes.Keep entries = entries
changed_by (changes.Put e) entries = entries ++ e ∷ []
changed_by (changes.Update e) entries = put_entry e entries
changed_by (changes.End id) entries = without (has_entry_id id) entries
changed_by (changes.Swap id e) entries = without (has_entry_id id) entries ++ e ∷ []
changed_by (changes.EndDue moment) entries = without (is_due_entry moment) entries

-- the entry of an id
abbrev pub entry_of_id : ℕ → List Entry → Option Entry
entry_of_id id entries = find (has_entry_id id) entries

-- each of the ids is below this one
abbrev pub AreOlder : ℕ → List Entry → Type 0
AreOlder id entries = AllByRecursion (λ (e : Entry). e.id < id) entries

abbrev pub is_found_with : Key → Option Entry → Bool
is_found_with key None = false
is_found_with key (Some e) = has_key key e

-- when a change can be made of a list: an entry that changes or leaves is there, a changed one keeps its key, a new one has an id above all and a key of its own or of the one whose place it takes
abbrev pub Fits : Change → List Entry → Type 0
Fits changes.Keep entries = Unit {0}
Fits (changes.Put e) entries = AreOlder e.id entries × (entry_at e.key entries ≡ None)
Fits (changes.Update e) entries = is_found_with e.key (entry_of_id e.id entries) ≡ true
Fits (changes.End id) entries = is_some (entry_of_id id entries) ≡ true
Fits (changes.Swap id e) entries = AreOlder e.id entries × (is_found_with e.key (entry_of_id id entries) ≡ true)
Fits (changes.EndDue moment) entries = Unit {0}

-- the change can be made of the bucket's entries, and makes the entries that the bucket has after the item
pub record CarriesIn (bucket : ℕ) (s : State) (item : Item) (change : Change) : Type 0 where
  pub fits : Fits change (entries_of bucket s)
  pub carried : entries_of bucket (step s item).1 ≡ changed_by change (entries_of bucket s)

-- by the item's bucket; where it has none, nothing changes
abbrev pub CarriesAt : Option ℕ → State → Item → Change → Type 0
CarriesAt None s item change = change ≡ changes.Keep
CarriesAt (Some bucket) s item change = CarriesIn bucket s item change

-- the change carries the entries of the item's bucket to those of the next state
abbrev pub Carries : State → Item → Change → Type 0
Carries s item change = CarriesAt (home s.buckets item) s item change
