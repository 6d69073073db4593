-- What the law Release speaks of: a server stays, live or in the trash, until nothing names it.
use Rattle.std.specs.Prelude.{◌≡◌, ◌≢◌, true, false, List, ◌∷◌, ◌++◌, Option, Some, None}
use Rattle.std.specs.List.{AllByRecursion}
use Rattle.lvs_types.specs.declared.addr.DestId.{DestId}
use Rattle.lvs_types.specs.declared.dest.Dest.{Dest}
use Rattle.lvs_types.specs.declared.entry.Entry.{Entry}
use Rattle.lvs_types.specs.declared.template.Template.{Template}
use Rattle.lvs_types.specs.declared.command.Command.{Command}
use Rattle.lvs_types.specs.declared.command.Command.TheVariants as command
use Rattle.lvs_types.specs.declared.item.Item.{Item}
use Rattle.lvs_types.specs.declared.item.Item.TheVariants as item
use Rattle.lvs_model.specs.State.{State}
use Rattle.lvs_model.specs.Step.{step, run}
use Rattle.lvs_model.specs.Lookups.{dest_at}
use Rattle.lvs_model.specs.Counts.{refs}
use Rattle.lvs_model.specs.Clock.{reaped_templates}

-- one server before and after: its id, service, address and port are the same; the rest of its specification, its overload, and whether it is live may have changed
pub record IsSameServer (d later : Dest) : Type 0 where
  pub id : later.id ≡ d.id
  pub service : later.service ≡ d.service
  pub addr : later.spec.addr ≡ d.spec.addr
  pub port : later.spec.port ≡ d.spec.port

-- the server is in the state, live or in the trash
abbrev pub IsServerOf : State → Dest → Type 0
IsServerOf s d = dest_at d.id s.dests ≡ Some d

-- no server of the id is in the state
abbrev pub IsGone : State → DestId → Type 0
IsGone s id = dest_at id s.dests ≡ None

-- no entry and no template names a server of the id
pub record IsUnnamed (s : State) (id : DestId) : Type 0 where
  pub entries : AllByRecursion (λ (e : Entry). e.server ≢ Some id) s.entries
  pub templates : AllByRecursion (λ (t : Template). t.server ≢ Some id) s.templates

-- the command takes away this server, its service, or all services
abbrev pub TakesAway : Dest → Command → Type 0
TakesAway d (command.RemoveServer key addr port) = (key ≡ d.service) × (addr ≡ d.spec.addr) × (port ≡ d.spec.port)
TakesAway d (command.RemoveService key) = key ≡ d.service
TakesAway d command.Clear = Unit {0}
TakesAway d (command.AddService service) = ⊥
TakesAway d (command.EditService service) = ⊥
TakesAway d (command.AddServer key spec) = ⊥
TakesAway d (command.EditServer key spec) = ⊥
TakesAway d (command.Timeouts established fin_wait udp) = ⊥
TakesAway d (command.StartMaster id) = ⊥
TakesAway d (command.StartBackup id) = ⊥
TakesAway d command.StopMaster = ⊥
TakesAway d command.StopBackup = ⊥

-- the server is live, the command takes it away, and no entry and no template names it
pub record IsRemovedBy (s : State) (d : Dest) (c : Command) : Type 0 where
  pub live : d.live ≡ true
  pub taken : TakesAway d c
  pub unnamed : refs d.id s.entries s.templates ≡ 0

-- the server is in the trash, and once the due templates have left no entry and no template names it
pub record IsReapedIn (s : State) (d : Dest) : Type 0 where
  pub trashed : d.live ≡ false
  pub unnamed : refs d.id s.entries (reaped_templates s) ≡ 0

-- the ways in which a server leaves, by the item
abbrev pub IsReleasedBy : State → Dest → Item → Type 0
IsReleasedBy s d (item.Edit c) = IsRemovedBy s d c
IsReleasedBy s d item.Reap = IsReapedIn s d
IsReleasedBy s d (item.Incoming mark bytes) = ⊥
IsReleasedBy s d (item.Outgoing bytes) = ⊥
IsReleasedBy s d (item.Set setting) = ⊥
IsReleasedBy s d (item.Learn sync_id record_item) = ⊥
IsReleasedBy s d (item.BadSync why) = ⊥
IsReleasedBy s d (item.Tick moment) = ⊥
IsReleasedBy s d (item.Sweep bucket) = ⊥
IsReleasedBy s d item.SendSync = ⊥

-- what an item may make of a server: the same one is found by its id, or none is and the item released it
abbrev pub StaysOrIsReleased : State → Item → Dest → Option Dest → Type 0
StaysOrIsReleased s next d (Some later) = IsSameServer d later
StaysOrIsReleased s next d None = IsReleasedBy s d next

-- somewhere in the items: after the front the server is still in the state, and the item after it releases it
pub record IsReleasedAmong (s : State) (items : List Item) (d : Dest) : Type 0 where
  pub prefix : List Item
  pub next : Item
  pub rest : List Item
  pub splits : items ≡ prefix ++ next ∷ rest
  pub server : Dest
  pub there : dest_at d.id (run s prefix).1.dests ≡ Some server
  pub same : IsSameServer d server
  pub released : IsReleasedBy (run s prefix).1 server next
  pub left : IsGone (step (run s prefix).1 next).1 d.id
