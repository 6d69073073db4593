-- What a director sends is read again.
use Rattle.std.specs.Prelude.{◌≡◌, ℕ, ◌<◌, List, map, length, All, Ok}
use Rattle.lvs_types.specs.declared.sync.SyncRecord.{SyncRecord}
use Rattle.lvs_types.specs.declared.sync.SyncItem.TheVariants.{V4}
use Rattle.lvs_model.specs.Messages.{written, HasOldFlags}
use Rattle.lvs_model.specs.MessageReading.{read_sync, message_with}

-- version 1: the same sync id and the same records
abbrev pub NewReadsBack : ℕ → List SyncRecord → Type 0
NewReadsBack id records = read_sync (written 1 id records) ≡ Ok (message_with id (map V4 records))

-- what version 0 tells of a record
abbrev pub without_mark : SyncRecord → SyncRecord
without_mark r = record r { mark = 0; timeout = 0 }

-- version 0: the same sync id, and the records with mark 0 and timeout 0
abbrev pub OldReadsBack : ℕ → List SyncRecord → Type 0
OldReadsBack id records =
    0 < length records → All HasOldFlags records → read_sync (written 0 id records) ≡ Ok (message_with id (map (λ r. V4 (without_mark r)) records))
