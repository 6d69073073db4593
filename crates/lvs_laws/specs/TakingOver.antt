-- What the law Takeover speaks of: the packets of a connection go to its address and port, recorded ones too.
use Rattle.std.specs.Prelude.{◌≡◌, ℕ, ◌<◌, true, false, List, Option, Some, None, take}
use Rattle.lvs_types.specs.declared.addr.Addr.{Addr}
use Rattle.lvs_types.specs.declared.head.Head.{Head}
use Rattle.lvs_types.specs.declared.service.Proto.{Proto}
use Rattle.lvs_types.specs.declared.entry.Entry.{Entry}
use Rattle.lvs_types.specs.declared.item.Item.TheVariants as item
use Rattle.lvs_types.specs.declared.reply.Reply.{Reply}
use Rattle.lvs_types.specs.declared.reply.Reply.TheVariants as reply
use Rattle.lvs_types.specs.declared.reply.DropCause.TheVariants as drops
use Rattle.lvs_types.specs.declared.sync.SyncItem.TheVariants.{V4}
use Rattle.lvs_types.specs.declared.sync.SyncRecord.{SyncRecord}
use Rattle.lvs_types.specs.declared.sync.Learnt.TheVariants as learnt
use Rattle.lvs_model.specs.State.{State}
use Rattle.lvs_model.specs.Step.{step}
use Rattle.lvs_model.specs.Rewriting.{bytes_for, is_too_long}
use Rattle.lvs_model.specs.SyncRules.{is_template_record}
use Rattle.lvs_model.specs.Learning.{recorded_key}
use Rattle.lvs_laws.specs.Keeping.{IsPacketOf, packet_of, entry_of_id, met, is_reused_by, is_at_removed}

-- a packet of the entry's key that doesn't take up its place
pub record IsPlainPacketOf (s : State) (e : Entry) (mark : ℕ) (bytes : List ℕ) (head : Head) (proto : Proto) : Type 0 where
  pub packet : IsPacketOf e bytes head proto
  pub stays : is_reused_by s e (packet_of mark bytes head proto) ≡ false

-- the answer to a packet of the entry: it goes to this address, with the bytes for this port and the entry's method; or it is dropped, since the server was removed, or since its tunnel packet would be too long
abbrev pub IsSentOn : State → Entry → Head → List ℕ → Addr → ℕ → Reply → Type 0
IsSentOn s e head bytes daddr dport (reply.Forward method addr sent) =
    (method ≡ (met s e).0.method) × (addr ≡ daddr) × (sent ≡ bytes_for s.local head (take head.total bytes) method daddr dport)
IsSentOn s e head bytes daddr dport (reply.Drop drops.Gone) = is_at_removed s e ≡ true
IsSentOn s e head bytes daddr dport (reply.Drop drops.TooLong) = is_too_long head (met s e).0.method ≡ true
IsSentOn s e head bytes daddr dport _ = ⊥

-- the record of a connection arrives, and is accepted
pub record IsTakenOver (s : State) (sync_id : ℕ) (r : SyncRecord) : Type 0 where
  pub accepted : (step s (item.Learn sync_id (V4 r))).0 ≡ reply.Learnt learnt.Accepted
  pub connection : is_template_record r ≡ false

-- an entry of the recorded key, which goes to the recorded address and port
pub record IsAsRecorded (r : SyncRecord) (e : Entry) : Type 0 where
  pub key : e.key ≡ recorded_key r
  pub daddr : e.daddr ≡ r.daddr
  pub dport : e.dport ≡ r.dport

abbrev pub IsThereAsRecorded : SyncRecord → Option Entry → Type 0
IsThereAsRecorded r None = ⊥
IsThereAsRecorded r (Some e) = IsAsRecorded r e

-- what the record leaves
abbrev pub after_record : State → ℕ → SyncRecord → State
after_record s sync_id r = (step s (item.Learn sync_id (V4 r))).1

-- a packet of the entry's key that meets the test of reuse
pub record IsReusingPacketOf (s : State) (e : Entry) (mark : ℕ) (bytes : List ℕ) (head : Head) (proto : Proto) : Type 0 where
  pub packet : IsPacketOf e bytes head proto
  pub reuses : is_reused_by s e (packet_of mark bytes head proto) ≡ true

-- what comes of it: it is too long for a tunnel, which its new connection would go through, and then everything stays; or it takes up the place of the connection, which has ended
abbrev pub TakesUp : State → Entry → Head → Reply × State → Type 0
TakesUp s e head (reply.Drop drops.TooLong, later) = (65515 < head.total) × (later ≡ s)
TakesUp s e head (answer, later) = entry_of_id e.id later.entries ≡ None
