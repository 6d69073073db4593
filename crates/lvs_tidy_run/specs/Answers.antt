-- What the call answers once the input was read (this project's profile).
use Rattle.std.specs.Prelude.{◌≡◌, ◌⊎◌, ℕ, List, Option, Result, Ok, Err}
use Rattle.std.specs.Io.KnownBytes.{Appends}
use Rattle.lvs_types.specs.declared.script.Script.{Script}
use Rattle.lvs_types.specs.declared.status.Status.{Status}
use Rattle.lvs_types.specs.declared.status.Status.TheVariants as status
use Rattle.lvs_outside.specs.Faults.{AppendsProperPrefix}
use Rattle.lvs_tidy.specs.ScriptTexts.{script_text}
use Rattle.lvs_tidy_run.specs.Made.{IsRefusal}

-- how far a text was written
abbrev pub IsWritten : List ℕ → Option (List ℕ) → Option (List ℕ) → Status → Type 0
IsWritten text old new status.Finished = Appends old new text
IsWritten text old new status.WriteFault = AppendsProperPrefix old new text
IsWritten text old new status.NoMemory = new ≡ old
IsWritten text old new _ = ⊥

-- by the script that the input makes, or the status with which it is refused
abbrev pub IsAnswer : Result Script Status → Option (List ℕ) → Option (List ℕ) → Status → Type 0
IsAnswer (Err refused) old new ended = IsRefusal refused × ((ended ≡ refused) ⊎ (ended ≡ status.NoMemory)) × (new ≡ old)
IsAnswer (Ok script) old new ended = IsWritten (script_text script) old new ended
