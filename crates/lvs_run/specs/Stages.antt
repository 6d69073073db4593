-- At which stage of a run a status comes.
use Rattle.std.specs.Prelude.{◌≡◌, Result, Err}
use Rattle.lvs_types.specs.declared.status.Status.{Status}
use Rattle.lvs_types.specs.declared.status.Status.TheVariants as status
use Rattle.lvs_pcap.specs.declared.refused.CaptureRefused.{CaptureRefused}
use Rattle.lvs_pcap.specs.declared.refused.CaptureRefused.TheVariants as refusal

-- all was done, and all of it was written
abbrev pub IsCompleted : Status → Type 0
IsCompleted status.Finished = Unit {0}
IsCompleted (status.Illegal verdict) = Unit {0}
IsCompleted _ = ⊥

-- the input was read, and is refused
abbrev pub IsRefusal : Status → Type 0
IsRefusal (status.ScriptRefused line cause) = Unit {0}
IsRefusal (status.CaptureRefused at cause) = Unit {0}
IsRefusal _ = ⊥

-- the source failed, its input is too long, or there was no memory for it
abbrev pub IsUnread : Status → Type 0
IsUnread status.ReadFault = Unit {0}
IsUnread status.ScriptTooLong = Unit {0}
IsUnread status.NoMemory = Unit {0}
IsUnread _ = ⊥

-- a refusal is the one that was found; want of memory may come whatever was found
abbrev pub IsRefusedBy : {A : Type 0} → Result A Status → Status → Type 0
IsRefusedBy {A = A} found status.NoMemory = Unit {0}
IsRefusedBy {A = A} found (status.ScriptRefused line cause) = found ≡ Err (status.ScriptRefused line cause)
IsRefusedBy {A = A} found (status.CaptureRefused at cause) = found ≡ Err (status.CaptureRefused at cause)
IsRefusedBy {A = A} found _ = ⊥

-- the status of a refused capture
abbrev pub capture_status : CaptureRefused → Status
capture_status (refusal.Refused at cause) = status.CaptureRefused at cause
capture_status refusal.NoMemory = status.NoMemory
