-- What a reader of sync messages refuses, and the rule of each version.
use Rattle.std.specs.Prelude.{◌≡◌, ℕ, List, Result, Err}
use Rattle.lvs_types.specs.declared.sync.BadSync.{BadSync}
use Rattle.lvs_sync_codec.specs.declared.refused.MessageRefused.{MessageRefused}
use Rattle.lvs_sync_codec.specs.declared.refused.MessageRefused.TheVariants.{Bad, NoMemory}
use Rattle.lvs_sync_codec.specs.declared.version.Version.{Version}
use Rattle.lvs_sync_codec.specs.declared.version.Version.TheVariants.{Zero, One}
use Rattle.lvs_model.specs.MessageReading.{RecordRead, read_record, read_old_record}

-- a refusal tells the cause that the bytes have; want of memory may come whatever they are
abbrev pub IsRefusal : {A : Type 0} → Result A BadSync → MessageRefused → Type 0
IsRefusal {A = A} read (Bad cause) = read ≡ Err cause
IsRefusal {A = A} read NoMemory = Unit {0}

-- how a record of a version is read
abbrev pub reader : Version → List ℕ → RecordRead
reader Zero = read_old_record
reader One = read_record
