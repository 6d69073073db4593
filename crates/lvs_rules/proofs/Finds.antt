-- What was found for an item, by the kind of the item.
use Rattle.std.proofs.Common.{◌≡◌, ℕ, List, Option, Some, None, refl, ap, sym, ◌∙◌}
use Rattle.std.specs.Prelude.{IfSome, IfNone}
use Rattle.std.specs.List.{AllByRecursion}
use Rattle.lvs_types.specs.declared.bucket.Found.{Found}
use Rattle.lvs_types.specs.declared.bucket.Found.TheVariants as found
use Rattle.lvs_types.specs.declared.item.Item.TheVariants as item
use Rattle.lvs_types.specs.declared.sync.SyncItem.{SyncItem}
use Rattle.lvs_types.specs.declared.entry.Entry.{Entry}
use Rattle.lvs_types.specs.declared.entry.Key.{Key}
use Rattle.lvs_model.specs.State.{State}
use Rattle.lvs_model.specs.Reading.{read}
use Rattle.lvs_model.specs.Lookups.{entry_at, has_key}
use Rattle.lvs_model.specs.Buckets.{look_up, one_or_nothing, head_read, incoming_in, outgoing_in, recorded_in, key_of_learnt}
use Rattle.lvs_well_formed.proofs.Lists.{all_find}
use Rattle.lvs_well_formed.proofs.BucketLooks.{incoming_found, outgoing_found, learnt_found}
use Rattle.lvs_rules.specs.Finds.{entry_in, IsGiven}
use Rattle.lvs_rules.specs.Bounds.{HasFewPackets}

one_back : (o : Option Entry) → entry_in (one_or_nothing o) ≡ o
one_back None = refl
one_back (Some e) = refl

pub incoming_entry : (s : State) (mark : ℕ) (bytes : List ℕ) (f : Found) → f ≡ look_up s (item.Incoming mark bytes) → entry_in f ≡ incoming_in s.entries (head_read (read bytes))
incoming_entry s mark bytes f is = ap entry_in (is ∙ incoming_found s mark bytes) ∙ one_back (incoming_in s.entries (head_read (read bytes)))

pub outgoing_entry : (s : State) (bytes : List ℕ) (f : Found) → f ≡ look_up s (item.Outgoing bytes) → entry_in f ≡ outgoing_in s.entries (head_read (read bytes))
outgoing_entry s bytes f is = ap entry_in (is ∙ outgoing_found s bytes) ∙ one_back (outgoing_in s.entries (head_read (read bytes)))

pub learnt_entry : (s : State) (sync_id : ℕ) (i : SyncItem) (f : Found) → f ≡ look_up s (item.Learn sync_id i) → entry_in f ≡ recorded_in s.entries (key_of_learnt i)
learnt_entry s sync_id i f is = ap entry_in (is ∙ learnt_found s sync_id i) ∙ one_back (recorded_in s.entries (key_of_learnt i))

pub held : (holds : Entry → Type 0) (free : Type 0) (f : Found) → IsGiven holds free f → IfSome (entry_in f) holds
held holds free found.Nothing given = tt
held holds free (found.One e) given = given
held holds free (found.Due due) given = tt

pub none_held : (holds : Entry → Type 0) (free : Type 0) (f : Found) → IsGiven holds free f → IfNone (entry_in f) free
none_held holds free found.Nothing given = given
none_held holds free (found.One e) given = tt
none_held holds free (found.Due due) given = given

few_by : (es : List Entry) (key : Key) (o : Option Entry) → AllByRecursion HasFewPackets es → entry_at key es ≡ o → IfSome o HasFewPackets
few_by es key None each is = tt
few_by es key (Some e) each is = all_find HasFewPackets (has_key key) es e each is

pub few_packets : (es : List Entry) (key : Key) (o : Option Entry) → AllByRecursion HasFewPackets es → o ≡ entry_at key es → IfSome o HasFewPackets
few_packets es key o each is = few_by es key o each (sym is)
