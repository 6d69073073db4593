-- What an operator relies on, of one step: the laws Keep, Release and Takeover.
use Rattle.std.specs.Prelude.{◌≡◌, ℕ, List, Some}
use Rattle.lvs_types.specs.declared.head.Head.{Head}
use Rattle.lvs_types.specs.declared.service.Proto.{Proto}
use Rattle.lvs_types.specs.declared.addr.DestId.{DestId}
use Rattle.lvs_types.specs.declared.dest.Dest.{Dest}
use Rattle.lvs_types.specs.declared.entry.Entry.{Entry}
use Rattle.lvs_types.specs.declared.item.Item.{Item}
use Rattle.lvs_types.specs.declared.item.Item.TheVariants as item
use Rattle.lvs_types.specs.declared.reply.Reply.{Reply}
use Rattle.lvs_types.specs.declared.sync.SyncItem.TheVariants.{V4, V6}
use Rattle.lvs_model.specs.State.{State}
use Rattle.lvs_model.specs.Lookups.{dest_at, entry_at}
use Rattle.lvs_model.specs.Learning.{recorded_key}
use Rattle.lvs_laws.specs.Keeping.{entry_of_id, IsKeptUnless, LeavesBy}
use Rattle.lvs_laws.specs.Releasing.{IsGone, IsServerOf, IsUnnamed, StaysOrIsReleased}
use Rattle.lvs_laws.specs.TakingOver.{IsPlainPacketOf, IsReusingPacketOf, IsSentOn, IsTakenOver, IsThereAsRecorded, TakesUp}

-- each connection is the same afterwards, or it left by one of the named ways
abbrev pub Keeps : State → Item → Reply × State → Type 0
Keeps s next after = (e : Entry) → entry_of_id e.id s.entries ≡ Some e → IsKeptUnless (LeavesBy s e next) e (entry_of_id e.id after.1.entries)

-- each server is still there, or the item released it; and nothing names one that isn't there
pub record Releases (s : State) (next : Item) (after : Reply × State) : Type 0 where
  pub stays : (d : Dest) → IsServerOf s d → StaysOrIsReleased s next d (dest_at d.id after.1.dests)
  pub unnamed : (id : DestId) → IsGone after.1 id → IsUnnamed after.1 id

-- a packet goes on with its connection, or takes up the place of it
pub record Follows (s : State) (mark : ℕ) (bytes : List ℕ) (after : Reply × State) : Type 0 where
  pub sent : (e : Entry) (head : Head) (proto : Proto) → entry_of_id e.id s.entries ≡ Some e → IsPlainPacketOf s e mark bytes head proto → IsSentOn s e head bytes e.daddr e.dport after.0
  pub reusing : (e : Entry) (head : Head) (proto : Proto) → entry_of_id e.id s.entries ≡ Some e → IsReusingPacketOf s e mark bytes head proto → TakesUp s e head after

-- packets follow their connection, and an accepted record leaves the connection that it says
abbrev pub TakesOver : State → Item → Reply × State → Type 0
TakesOver s (item.Incoming mark bytes) after = Follows s mark bytes after
TakesOver s (item.Learn sync_id (V4 r)) after = IsTakenOver s sync_id r → IsThereAsRecorded r (entry_at (recorded_key r) after.1.entries)
TakesOver s (item.Learn sync_id V6) after = Unit {0}
TakesOver s (item.Outgoing bytes) after = Unit {0}
TakesOver s (item.Edit command) after = Unit {0}
TakesOver s (item.Set setting) after = Unit {0}
TakesOver s (item.BadSync why) after = Unit {0}
TakesOver s (item.Tick moment) after = Unit {0}
TakesOver s (item.Sweep bucket) after = Unit {0}
TakesOver s item.Reap after = Unit {0}
TakesOver s item.SendSync after = Unit {0}
