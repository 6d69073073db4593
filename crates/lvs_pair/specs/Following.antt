-- What the backup has taken over, in the words of its user.
use Rattle.std.specs.Prelude.{◌≡◌, ℕ, false, List, ◌∷◌, ◌++◌, Some}
use Rattle.lvs_types.specs.declared.entry.Entry.{Entry}
use Rattle.lvs_types.specs.declared.head.Head.{Head}
use Rattle.lvs_types.specs.declared.item.Item.{Item}
use Rattle.lvs_types.specs.declared.item.Item.TheVariants as item
use Rattle.lvs_types.specs.declared.reply.Reply.{Reply}
use Rattle.lvs_types.specs.declared.reply.Reply.TheVariants as reply
use Rattle.lvs_types.specs.declared.service.Proto.{Proto}
use Rattle.lvs_types.specs.declared.sync.Learnt.TheVariants as learnt
use Rattle.lvs_types.specs.declared.sync.SyncItem.TheVariants.{V4}
use Rattle.lvs_types.specs.declared.sync.SyncRecord.{SyncRecord}
use Rattle.lvs_model.specs.Learning.{recorded_key}
use Rattle.lvs_model.specs.Lookups.{entry_at}
use Rattle.lvs_model.specs.State.{State}
use Rattle.lvs_model.specs.Step.{step, run}
use Rattle.lvs_model.specs.SyncRules.{is_template_record}
use Rattle.lvs_laws.specs.Keeping.{entry_of_id, IsKeptUnless, LeavesIn}
use Rattle.lvs_laws.specs.TakingOver.{IsAsRecorded, IsPlainPacketOf, IsReusingPacketOf, IsSentOn, TakesUp}

-- the record was accepted
abbrev pub accepted : ℕ → SyncRecord → Item × Reply
accepted sync_id r = (item.Learn sync_id (V4 r), reply.Learnt learnt.Accepted)

-- no accepted record of a connection in this book has the key of that one
abbrev pub IsLast : SyncRecord → List (Item × Reply) → Type 0
IsLast r later = (before after : List (Item × Reply)) (sync_id : ℕ) (other : SyncRecord) → later ≡ before ++ accepted sync_id other ∷ after → is_template_record other ≡ false → recorded_key other ≡ recorded_key r → ⊥

-- the record of a connection was accepted, and it is the last one of its key
pub record IsLastAccepted (r : SyncRecord) (book : List (Item × Reply)) : Type 0 where
  pub before : List (Item × Reply)
  pub sync_id : ℕ
  pub later : List (Item × Reply)
  pub cut : book ≡ before ++ accepted sync_id r ∷ later
  pub connection : is_template_record r ≡ false
  pub last : IsLast r later

-- whatever items come now, the connection is there and the same, or it left by one of the named ways; as long as it is there, its packets go to the recorded address, or are dropped by a named rule; and one that takes up its place ends it
pub record GoesOn (s : State) (r : SyncRecord) (e : Entry) : Type 0 where
  pub kept : (items : List Item) → IsKeptUnless (LeavesIn s e items) e (entry_of_id e.id (run s items).1.entries)
  pub sent : (items : List Item) (later : Entry) (mark : ℕ) (bytes : List ℕ) (head : Head) (proto : Proto) → entry_of_id e.id (run s items).1.entries ≡ Some later
      → IsPlainPacketOf (run s items).1 later mark bytes head proto → IsSentOn (run s items).1 later head bytes r.daddr r.dport (step (run s items).1 (item.Incoming mark bytes)).0
  pub reusing : (items : List Item) (later : Entry) (mark : ℕ) (bytes : List ℕ) (head : Head) (proto : Proto) → entry_of_id e.id (run s items).1.entries ≡ Some later
      → IsReusingPacketOf (run s items).1 later mark bytes head proto → TakesUp (run s items).1 later head (step (run s items).1 (item.Incoming mark bytes))

-- each connection whose record was accepted is there as the last accepted record of it says, and goes on so
pub record IsThere (s : State) (r : SyncRecord) : Type 0 where
  pub entry : Entry
  pub found : entry_at (recorded_key r) s.entries ≡ Some entry
  pub recorded : IsAsRecorded r entry
  pub goes_on : GoesOn s r entry

abbrev pub HasTakenOver : List (Item × Reply) → State → Type 0
HasTakenOver book s = (r : SyncRecord) → IsLastAccepted r book → IsThere s r
