-- What the law of saved tables speaks of: commands that words can say, and the tables that they leave.
use Rattle.std.specs.Prelude.{List}
use Rattle.std.specs.List.{AllByRecursion}
use Rattle.lvs_types.specs.declared.service.ServiceKey.{ServiceKey}
use Rattle.lvs_types.specs.declared.service.Service.{Service}
use Rattle.lvs_types.specs.declared.dest.DestSpec.{DestSpec}
use Rattle.lvs_types.specs.declared.dest.Dest.{Dest}
use Rattle.lvs_types.specs.declared.command.Command.{Command}
use Rattle.lvs_types.specs.declared.command.Command.TheVariants as command
use Rattle.lvs_types.specs.declared.item.Item.{Item}
use Rattle.lvs_types.specs.declared.item.Item.TheVariants as item
use Rattle.lvs_model.specs.State.{State}
use Rattle.lvs_listing.specs.Savable.{IsSayableService, IsSayableServer}

-- words can say the server but for its lower threshold, which the director compares with the upper one
abbrev pub IsSayableSpec : ServiceKey → DestSpec → Type 0
IsSayableSpec key spec = IsSayableServer key (record spec { lower = 0 })

-- the service or server that the command gives is one that words can say
abbrev pub IsSayableCommand : Command → Type 0
IsSayableCommand (command.AddService service) = IsSayableService service
IsSayableCommand (command.EditService service) = IsSayableService service
IsSayableCommand (command.AddServer key spec) = IsSayableSpec key spec
IsSayableCommand (command.EditServer key spec) = IsSayableSpec key spec
IsSayableCommand (command.RemoveService key) = Unit {0}
IsSayableCommand command.Clear = Unit {0}
IsSayableCommand (command.RemoveServer key addr port) = Unit {0}
IsSayableCommand (command.Timeouts established fin_wait udp) = Unit {0}
IsSayableCommand (command.StartMaster id) = Unit {0}
IsSayableCommand (command.StartBackup id) = Unit {0}
IsSayableCommand command.StopMaster = Unit {0}
IsSayableCommand command.StopBackup = Unit {0}

-- a command among the items is one that words can say
abbrev pub IsSayableItem : Item → Type 0
IsSayableItem (item.Edit given) = IsSayableCommand given
IsSayableItem (item.Incoming mark bytes) = Unit {0}
IsSayableItem (item.Outgoing bytes) = Unit {0}
IsSayableItem (item.Set setting) = Unit {0}
IsSayableItem (item.Learn sync_id record_item) = Unit {0}
IsSayableItem (item.BadSync why) = Unit {0}
IsSayableItem (item.Tick moment) = Unit {0}
IsSayableItem (item.Sweep bucket) = Unit {0}
IsSayableItem item.Reap = Unit {0}
IsSayableItem item.SendSync = Unit {0}

-- words can say a server, live or in the trash, for its service
abbrev pub IsSayableDest : Dest → Type 0
IsSayableDest d = IsSayableServer d.service d.spec

-- words can say each service and each server, live or in the trash
pub record AreSayableTables (all_services : List Service) (all_servers : List Dest) : Type 0 where
  pub services : AllByRecursion IsSayableService all_services
  pub servers : AllByRecursion IsSayableDest all_servers

abbrev pub HasSayableTables : State → Type 0
HasSayableTables s = AreSayableTables s.services s.dests
