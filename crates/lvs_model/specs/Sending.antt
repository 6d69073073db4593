-- The pending records are sent (the connection synchronisation protocol; 40 records a message is this project's profile).
use Rattle.std.specs.Prelude.{ℕ, zero, suc, map, List, [], ◌∷◌, Option, Some, None, length, take, drop}
use Rattle.lvs_types.specs.declared.sync.SyncRecord.{SyncRecord}
use Rattle.lvs_types.specs.declared.reply.Reply.{Reply}
use Rattle.lvs_types.specs.declared.reply.Reply.TheVariants as reply
use Rattle.lvs_model.specs.State.{State}
use Rattle.lvs_model.specs.Messages.{written}

-- at most so many runs of 40 records, and a last one with the rest
abbrev pub runs_within : ℕ → List SyncRecord → List (List SyncRecord)
runs_within most [] = []
runs_within zero (r ∷ records) = []
runs_within (suc most) (r ∷ records) = take 40 (r ∷ records) ∷ runs_within most (drop 40 (r ∷ records))

-- the records in runs of 40, and a last one with the rest
abbrev pub runs_of_40 : List SyncRecord → List (List SyncRecord)
runs_of_40 records = runs_within (length records) records

abbrev pub id_of_master : Option ℕ → ℕ
id_of_master None = 0
id_of_master (Some id) = id

-- one message for each run
abbrev pub messages_of : ℕ → ℕ → List SyncRecord → List (List ℕ)
messages_of version id records = map (written version id) (runs_of_40 records)

-- with the master's sync id, in version 0 where sync_version is 0 and else in version 1; none stays pending
abbrev pub send : State → Reply × State
send s = (reply.Sent (messages_of s.settings.sync_version (id_of_master s.daemons.master) s.pending), record s { pending = [] })
