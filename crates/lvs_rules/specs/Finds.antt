-- What was found for an item.
use Rattle.std.specs.Prelude.{◌≡◌, false, List, Option, Some, None}
use Rattle.lvs_types.specs.declared.sync.SyncItem.{SyncItem}
use Rattle.lvs_types.specs.declared.sync.SyncItem.TheVariants.{V4, V6}
use Rattle.lvs_model.specs.SyncRules.{is_template_record}
use Rattle.lvs_model.specs.Learning.{recorded_key}
use Rattle.lvs_model.specs.Lookups.{entry_at}
use Rattle.lvs_types.specs.declared.bucket.Found.{Found}
use Rattle.lvs_types.specs.declared.bucket.Found.TheVariants as found
use Rattle.lvs_types.specs.declared.entry.Entry.{Entry}

-- the one entry that was found
abbrev pub entry_in : Found → Option Entry
entry_in found.Nothing = None
entry_in (found.One e) = Some e
entry_in (found.Due due) = None

-- an entry that was found is held, and else none is there
abbrev pub IsGiven : (Entry → Type 0) → Type 0 → Found → Type 0
IsGiven holds free found.Nothing = free
IsGiven holds free (found.One e) = holds e
IsGiven holds free (found.Due due) = free

-- of a connection's record the entry of its key was found
abbrev pub IsRecordFound : SyncItem → Option Entry → List Entry → Type 0
IsRecordFound V6 found entries = Unit {0}
IsRecordFound (V4 r) found entries = is_template_record r ≡ false → found ≡ entry_at (recorded_key r) entries
