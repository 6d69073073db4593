-- A reader and a writer of std as a source and a sink (this project's profile).
use Rattle.std.specs.Prelude.{◌≡◌, ℕ, ◌<◌, List, take, Option, Result, Ok, Err}
use Rattle.std.specs.Io.KnownBytes.{Appends}
use Rattle.lvs_types.specs.declared.memory.Failed.{Failed}
use Rattle.lvs_outside.specs.Faults.{AppendsPrefix}
use Rattle.lvs_outside.specs.Memory.{one_more}

-- what a contract sees of a reader of std that serves as a source: the bytes that the reader has left
pub record ReadSeen : Type 0 where
  pub left : Option (List ℕ)
  pub faults : ℕ

-- what a contract sees of a writer of std that serves as a sink: the bytes that were acknowledged, and those that the writer was handed
pub record WriteSeen : Type 0 where
  pub written : Option (List ℕ)
  pub handed : Option (List ℕ)
  pub faults : ℕ

-- the writer was handed what was acknowledged, and maybe more; before the first fault no more
pub record Holds (written handed : Option (List ℕ)) (faults : ℕ) : Type 0 where
  pub more : (bytes : List ℕ) × Appends written handed bytes
  pub calm : faults ≡ 0 → handed ≡ written

-- what a write does: an acknowledged one hands the writer exactly the bytes that it counts; a failed one hands it a prefix of the bytes, and nothing where an earlier one failed
abbrev pub IsPassedOn : WriteSeen → WriteSeen → List ℕ → Result ℕ Failed → Type 0
IsPassedOn old new bytes (Ok count) = (old.faults ≡ 0) × Appends old.handed new.handed (take count bytes) × (new.written ≡ new.handed) × (new.faults ≡ 0)
IsPassedOn old new bytes (Err _) =
    AppendsPrefix old.handed new.handed bytes
    × (0 < old.faults → new.handed ≡ old.handed)
    × (new.written ≡ old.written)
    × (new.faults ≡ one_more old.faults)
