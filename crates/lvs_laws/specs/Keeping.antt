-- What the law Keep speaks of: a connection goes on with its server, and the ways in which it leaves.
use Rattle.std.specs.Prelude.{◌≡◌, ℕ, ◌≤◌, ◌==◌, true, false, ◌⊎◌, Bool, List, ◌∷◌, ◌++◌, Option, Some, None, Ok, is_some, take}
use Rattle.std.specs.List.{find}
use Rattle.lvs_types.specs.declared.head.Head.{Head}
use Rattle.lvs_types.specs.declared.service.Proto.{Proto}
use Rattle.lvs_types.specs.declared.entry.Entry.{Entry}
use Rattle.lvs_types.specs.declared.item.Item.{Item}
use Rattle.lvs_types.specs.declared.item.Item.TheVariants as item
use Rattle.lvs_types.specs.declared.sync.SyncItem.TheVariants.{V4}
use Rattle.lvs_types.specs.declared.sync.SyncRecord.{SyncRecord}
use Rattle.lvs_types.specs.declared.sync.Learnt.TheVariants as learnt
use Rattle.lvs_types.specs.Transport.{transport_of}
use Rattle.lvs_model.specs.State.{State}
use Rattle.lvs_model.specs.Step.{run}
use Rattle.lvs_model.specs.Reading.{read}
use Rattle.lvs_model.specs.Lookups.{has_entry_id}
use Rattle.lvs_model.specs.Packets.{Packet, key_of}
use Rattle.lvs_model.specs.Binding.{try_binding}
use Rattle.lvs_model.specs.Incoming.{is_reused, is_trashed, server_named}
use Rattle.lvs_model.specs.Clock.{entry_bucket}
use Rattle.lvs_model.specs.SyncRules.{accept, is_template_record}
use Rattle.lvs_model.specs.Learning.{recorded_key, goes_to_recorded}

-- the connection entry of an id
abbrev pub entry_of_id : ℕ → List Entry → Option Entry
entry_of_id id entries = find (has_entry_id id) entries

-- one connection before and after: its id, key, address and port are the same, and where it is bound so are its server and method
pub record IsSameConnection (e later : Entry) : Type 0 where
  pub id : later.id ≡ e.id
  pub key : later.key ≡ e.key
  pub daddr : later.daddr ≡ e.daddr
  pub dport : later.dport ≡ e.dport
  pub server : is_some e.server ≡ true → later.server ≡ e.server
  pub method : is_some e.server ≡ true → later.method ≡ e.method

-- THE WAYS

-- the bytes are an unfragmented packet of the entry's key
pub record IsPacketOf (e : Entry) (bytes : List ℕ) (head : Head) (proto : Proto) : Type 0 where
  pub reads : read bytes ≡ Ok head
  pub transport : transport_of head ≡ Some proto
  pub key : key_of proto head ≡ e.key

abbrev pub packet_of : ℕ → List ℕ → Head → Proto → Packet
packet_of mark bytes head proto = record { mark = mark; proto = proto; head = head; bytes = take head.total bytes }

-- the entry as its packet meets it, and the state then: an unbound one is bound where a server is found, a bound one is as it was
abbrev pub met : State → Entry → Entry × State
met s e = try_binding s e e.server

-- the packet is a SYN that takes up its place: by the reuse of old connections, or since its server has no weight
abbrev pub is_reused_by : State → Entry → Packet → Bool
is_reused_by s e p = is_reused (met s e).1.settings p (met s e).0 (server_named (met s e).0.server (met s e).1.dests)

-- its server was removed
abbrev pub is_at_removed : State → Entry → Bool
is_at_removed s e = is_trashed (server_named (met s e).0.server (met s e).1.dests)

-- its server was removed, and such connections are ended (the Linux ipvs-sysctl document, expire_nodest_conn)
pub record IsGone (s : State) (e : Entry) : Type 0 where
  pub removed : is_at_removed s e ≡ true
  pub ends : (s.settings.expire_nodest == 0) ≡ false

-- a packet of its key takes up its place, or finds its server removed
pub record IsEndedBy (s : State) (e : Entry) (mark : ℕ) (bytes : List ℕ) : Type 0 where
  pub head : Head
  pub proto : Proto
  pub packet : IsPacketOf e bytes head proto
  pub cause : (is_reused_by s e (packet_of mark bytes head proto) ≡ true) ⊎ IsGone s e

-- a sweep of its bucket, with its deadline now or before
pub record IsSweptBy (s : State) (e : Entry) (bucket : ℕ) : Type 0 where
  pub same_bucket : entry_bucket s.buckets e ≡ bucket
  pub due : e.deadline ≤ s.now

-- an accepted connection record of its key, with another address or port
pub record IsReplacedBy (s : State) (e : Entry) (sync_id : ℕ) (r : SyncRecord) : Type 0 where
  pub accepted : accept s.daemons.backup sync_id (V4 r) ≡ learnt.Accepted
  pub connection : is_template_record r ≡ false
  pub key : recorded_key r ≡ e.key
  pub elsewhere : goes_to_recorded r e ≡ false

-- the ways in which a connection leaves by an item; by the others none leaves
abbrev pub LeavesBy : State → Entry → Item → Type 0
LeavesBy s e (item.Incoming mark bytes) = IsEndedBy s e mark bytes
LeavesBy s e (item.Sweep bucket) = IsSweptBy s e bucket
LeavesBy s e (item.Learn sync_id (V4 r)) = IsReplacedBy s e sync_id r
LeavesBy s e _ = ⊥

-- of the items one is such that the connection, which was there until then and the same, leaves by it
pub record LeavesIn (s : State) (e : Entry) (items : List Item) : Type 0 where
  pub prefix : List Item
  pub leaves_by : Item
  pub rest : List Item
  pub cut : items ≡ prefix ++ leaves_by ∷ rest
  pub last : Entry
  pub there : entry_of_id e.id (run s prefix).1.entries ≡ Some last
  pub same : IsSameConnection e last
  pub leaves : LeavesBy (run s prefix).1 last leaves_by

-- what is found under its id is the same connection; where nothing is found, this is so
abbrev pub IsKeptUnless : Type 0 → Entry → Option Entry → Type 0
IsKeptUnless Way e (Some later) = IsSameConnection e later
IsKeptUnless Way e None = Way
