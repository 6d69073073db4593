-- The script that is printed of an input: a script, a line `capture` and a capture file (this project's profile).
use Rattle.std.specs.Prelude.{◌≡◌, ◌≢◌, ℕ, List, [], ◌∷◌, Result, Ok, Err, codes}
use Rattle.lvs_types.specs.declared.script.Round.{Round}
use Rattle.lvs_types.specs.declared.script.Script.{Script}
use Rattle.lvs_types.specs.declared.script.ScriptLine.{ScriptLine}
use Rattle.lvs_types.specs.declared.script.ScriptLine.TheVariants as line
use Rattle.lvs_types.specs.declared.status.Status.{Status}
use Rattle.lvs_types.specs.declared.status.Status.TheVariants as status
use Rattle.lvs_model.specs.Refusals.{◌>>=◌}
use Rattle.lvs_model.specs.Inputs.{Parts, parts_of}
use Rattle.lvs_model.specs.Tasks.{Task, script_given, capture_given, capture_task, serial_run}
use Rattle.lvs_model.specs.CaptureFiles.{capture_of}
use Rattle.lvs_model.specs.Captured.{captured}
use Rattle.lvs_pcap.specs.declared.refused.CaptureRefused.{CaptureRefused}
use Rattle.lvs_pcap.specs.declared.refused.CaptureRefused.TheVariants as refusal
use Rattle.lvs_tidy_run.specs.declared.words.Asked.{Asked}

-- the script with the rounds of the capture behind it, or the status with which `ipvsd capture` refuses the same input: a script at its first such line, and then a capture at its first such record
abbrev pub script_in : Asked → Parts → Result Script Status
script_in asked parts = do
  script ← script_given parts.first
  capture ← capture_given (capture_of parts.second)
  capture_given (captured asked.net asked.bits asked.step script capture)

abbrev pub script_made : Asked → List ℕ → Result Script Status
script_made asked input = script_in asked (parts_of (codes "capture") input)

-- what `ipvsd capture` does with a script that an input makes: it plays it, and writes what was sent
abbrev pub played : Result Script Status → Result Task Status
played made = do
  script ← made
  Ok (capture_task (serial_run script))

-- a packet has bytes; a script that was read has no packet without one, and a capture may
abbrev pub HasBytes : ScriptLine → Type 0
HasBytes (line.Incoming mark bytes) = bytes ≢ []
HasBytes (line.Outgoing bytes) = bytes ≢ []
HasBytes other = Unit {0}

abbrev pub HaveBytes : List ScriptLine → Type 0
HaveBytes [] = Unit {0}
HaveBytes (l ∷ lines) = HasBytes l × HaveBytes lines

-- no round has a packet without bytes
abbrev pub AllHaveBytes : List Round → Type 0
AllHaveBytes [] = Unit {0}
AllHaveBytes (round ∷ rounds) = HaveBytes round.lines × AllHaveBytes rounds

-- STATUSES

-- the input was read, and is refused
abbrev pub IsRefusal : Status → Type 0
IsRefusal (status.ScriptRefused line cause) = Unit {0}
IsRefusal (status.CaptureRefused at cause) = Unit {0}
IsRefusal _ = ⊥

-- the source failed, its input is too long, or there was no memory for it
abbrev pub IsUnread : Status → Type 0
IsUnread status.ReadFault = Unit {0}
IsUnread status.ScriptTooLong = Unit {0}
IsUnread status.NoMemory = Unit {0}
IsUnread _ = ⊥

-- a refusal is the one that was found; want of memory may come whatever was found
abbrev pub IsRefusedBy : {A : Type 0} → Result A Status → Status → Type 0
IsRefusedBy {A = A} found status.NoMemory = Unit {0}
IsRefusedBy {A = A} found (status.ScriptRefused line cause) = found ≡ Err (status.ScriptRefused line cause)
IsRefusedBy {A = A} found (status.CaptureRefused at cause) = found ≡ Err (status.CaptureRefused at cause)
IsRefusedBy {A = A} found _ = ⊥

-- the status of a refused capture
abbrev pub capture_status : CaptureRefused → Status
capture_status (refusal.Refused at cause) = status.CaptureRefused at cause
capture_status refusal.NoMemory = status.NoMemory
