-- The bucket of an item is one that there is.
use Rattle.std.proofs.Common.{◌≡◌, ℕ, ◌/◌, ◌^◌, ◌<◌, Option, Some, None, refl, arith, cond, nat_lt}
use mathlib.Core.Bool.{Bool, true, false}
use Rattle.std.proofs.Math.Nat.{mod-lt}
use Rattle.std.proofs.lemmas.Bool.Decides.{nat_tests}
use Rattle.lvs_types.specs.declared.addr.Addr.{Addr}
use Rattle.lvs_types.specs.declared.entry.Key.{Key}
use Rattle.lvs_types.specs.declared.head.Head.{Head}
use Rattle.lvs_types.specs.declared.service.Proto.{Proto}
use Rattle.lvs_types.specs.declared.item.Item.{Item}
use Rattle.lvs_types.specs.declared.item.Item.TheVariants as item
use Rattle.lvs_types.specs.Protocols.{proto_code}
use Rattle.lvs_types.specs.Transport.{transport_of}
use Rattle.lvs_model.specs.Numbers.{mix, bucket_of}
use Rattle.lvs_model.specs.Reading.{read}
use Rattle.lvs_model.specs.Buckets.{head_read, key_of_learnt, home, incoming_bucket, source_bucket, outgoing_bucket, destination_bucket, record_bucket}
use Rattle.lvs_shared.proofs.Histories.{IsBelow}

hashed : (n : ℕ) (proto : Proto) (client : Addr) (port : ℕ) → 0 < n → bucket_of (proto_code proto) client port n < n
hashed n proto client port some = mod-lt (mix (proto_code proto) client port / 2 ^ 24) some

source_below : (n : ℕ) (head : Head) (proto : Option Proto) → 0 < n → IsBelow (source_bucket n head proto) n
source_below n head None some = tt
source_below n head (Some proto) some = hashed n proto head.src head.sport some

incoming_below : (n : ℕ) (head : Option Head) → 0 < n → IsBelow (incoming_bucket n head) n
incoming_below n None some = tt
incoming_below n (Some head) some = source_below n head (transport_of head) some

destination_below : (n : ℕ) (head : Head) (proto : Option Proto) → 0 < n → IsBelow (destination_bucket n head proto) n
destination_below n head None some = tt
destination_below n head (Some proto) some = hashed n proto head.dst head.dport some

outgoing_below : (n : ℕ) (head : Option Head) → 0 < n → IsBelow (outgoing_bucket n head) n
outgoing_below n None some = tt
outgoing_below n (Some head) some = destination_below n head (transport_of head) some

record_below : (n : ℕ) (key : Option Key) → 0 < n → IsBelow (record_bucket n key) n
record_below n None some = tt
record_below n (Some key) some = hashed n key.proto key.caddr key.cport some

swept_below : (b n : ℕ) (c : Bool) → nat_lt b n ≡ c → IsBelow (cond c (Some b) None) n
swept_below b n true is = grind (arith, nat_tests, is)
swept_below b n false is = tt

pub home_below : (n : ℕ) (i : Item) → 0 < n → IsBelow (home n i) n
home_below n (item.Incoming mark bytes) some = incoming_below n (head_read (read bytes)) some
home_below n (item.Outgoing bytes) some = outgoing_below n (head_read (read bytes)) some
home_below n (item.Edit command) some = tt
home_below n (item.Set setting) some = tt
home_below n (item.Learn sync_id record_item) some = record_below n (key_of_learnt record_item) some
home_below n (item.BadSync why) some = tt
home_below n (item.Tick moment) some = tt
home_below n (item.Sweep bucket) some = swept_below bucket n (nat_lt bucket n) refl
home_below n item.Reap some = tt
home_below n item.SendSync some = tt
