-- What the desk knows of the item that it decides.
use Rattle.std.specs.Prelude.{◌≡◌, ℕ, ◌<◌, Option, Some, None}
use Rattle.lvs_types.specs.declared.bucket.Change.{Change}
use Rattle.lvs_types.specs.declared.bucket.Change.TheVariants.{Keep, Put, Update, End, Swap, EndDue}
use Rattle.lvs_types.specs.declared.entry.Entry.{Entry}
use Rattle.lvs_types.specs.declared.item.Item.{Item}
use Rattle.lvs_types.specs.declared.item.Item.TheVariants as item

-- the id of the entry that was found
abbrev pub id_of : Option Entry → Option ℕ
id_of None = None
id_of (Some e) = Some e.id

-- the bucket whose sweep the item is
abbrev pub sweep_of : Item → Option ℕ
sweep_of (item.Incoming mark bytes) = None
sweep_of (item.Outgoing bytes) = None
sweep_of (item.Edit command) = None
sweep_of (item.Set setting) = None
sweep_of (item.Learn sync_id record_item) = None
sweep_of (item.BadSync why) = None
sweep_of (item.Tick moment) = None
sweep_of (item.Sweep bucket) = Some bucket
sweep_of item.Reap = None
sweep_of item.SendSync = None

-- due entries end in the bucket alone whose sweep the item is
abbrev pub IsSweptAt : Option ℕ → ℕ → ℕ → Change → Type 0
IsSweptAt sweep buckets bucket Keep = Unit {0}
IsSweptAt sweep buckets bucket (Put e) = Unit {0}
IsSweptAt sweep buckets bucket (Update e) = Unit {0}
IsSweptAt sweep buckets bucket (End id) = Unit {0}
IsSweptAt sweep buckets bucket (Swap id e) = Unit {0}
IsSweptAt sweep buckets bucket (EndDue moment) = (sweep ≡ Some bucket) × (bucket < buckets)
