-- Tables that commands can leave, and what the commands that are read back make of a director without services and servers.
use Rattle.std.specs.Prelude.{ℕ, ◌≡◌, ◌≤◌, ◌<◌, ◌^◌, ◌++◌, ◌&&◌, ◌==◌, Bool, true, false, List, [], ◌∷◌, Option, Some, None, map}
use Rattle.std.specs.List.{list_any, list_all}
use Rattle.lvs_types.specs.declared.service.ServiceKey.{ServiceKey}
use Rattle.lvs_types.specs.declared.service.ServiceKey.TheVariants.{Net, Mark}
use Rattle.lvs_types.specs.declared.service.Method.TheVariants.{Masq}
use Rattle.lvs_types.specs.declared.service.Service.{Service}
use Rattle.lvs_types.specs.declared.dest.DestSpec.{DestSpec}
use Rattle.lvs_types.specs.declared.dest.Dest.{Dest}
use Rattle.lvs_types.specs.declared.dest.DestRow.{DestRow}
use Rattle.lvs_types.specs.declared.snapshot.Snapshot.{Snapshot}
use Rattle.lvs_types.specs.declared.command.Command.{Command}
use Rattle.lvs_types.specs.declared.item.Item.TheVariants as item
use Rattle.lvs_model.specs.State.{State}
use Rattle.lvs_model.specs.Same.{addr_eq, method_eq}
use Rattle.lvs_model.specs.Lookups.{has_service_key}
use Rattle.lvs_model.specs.Edits.{with_fresh_cursor}
use Rattle.lvs_model.specs.Step.{run}
use Rattle.lvs_model.specs.AdminWords.{is_tcp_service}
use Rattle.lvs_model.specs.AdminLines.{is_portless, service_port}
use Rattle.lvs_model.specs.Listings.{rows_of}

-- SERVICES AND SERVERS THAT WORDS CAN SAY

abbrev pub IsSayableKey : ServiceKey → Type 0
IsSayableKey (Net proto addr port) = (addr.number < 2 ^ 32) × (port < 2 ^ 16)
IsSayableKey (Mark mark) = (1 ≤ mark) × (mark < 2 ^ 32)

-- persistence of a second to 31 days; a mask or every port only with persistence
abbrev pub IsSayablePersistence : Option ℕ → ℕ → Bool → Type 0
IsSayablePersistence None bits portless = (bits ≡ 32) × (portless ≡ false)
IsSayablePersistence (Some seconds) bits portless = (1 ≤ seconds) × (seconds ≤ 2678400) × (bits ≤ 32)

pub record IsSayableService (s : Service) : Type 0 where
  pub key : IsSayableKey s.key
  pub persistence : IsSayablePersistence s.persist s.mask_bits (is_portless s.key)
  -- one-packet scheduling isn't for TCP
  pub one_packet : (is_tcp_service s.key && s.one_packet) ≡ false

pub record IsSayableServer (key : ServiceKey) (d : DestSpec) : Type 0 where
  pub addr : d.addr.number < 2 ^ 32
  pub port : d.port < 2 ^ 16
  -- only masquerading changes a packet's port
  pub port_kept : method_eq d.method Masq ≡ false → d.port ≡ service_port key
  pub weight : d.weight ≤ 2147483647
  pub upper : d.upper < 2 ^ 32
  pub lower : d.lower ≤ d.upper

-- TABLES

-- both stand at one address and port
abbrev pub stand_together : DestSpec → DestRow → Bool
stand_together d other = addr_eq other.dest.spec.addr d.addr && (other.dest.spec.port == d.port)

-- the servers of a service can be said, and each stands where none before it does
abbrev pub AreSavableServers : ServiceKey → List DestRow → List DestRow → Type 0
AreSavableServers key before [] = Unit {0}
AreSavableServers key before (row ∷ rows) =
    IsSayableServer key row.dest.spec × (list_any (stand_together row.dest.spec) before ≡ false) × AreSavableServers key (before ++ row ∷ []) rows

-- the services and their live servers can be said, and each service has a key that none before it has
abbrev pub AreSavableServices : List DestRow → List Service → List Service → Type 0
AreSavableServices rows before [] = Unit {0}
AreSavableServices rows before (service ∷ services) =
    IsSayableService service × AreSavableServers service.key [] (rows_of service.key rows) × (list_any (has_service_key service.key) before ≡ false) × AreSavableServices rows (before ++ service ∷ []) services

-- tables that commands can leave
abbrev pub IsSavable : Snapshot → Type 0
IsSavable tables = AreSavableServices tables.dests [] tables.services

-- WHAT IS MADE AGAIN

-- a service's key and the specification of one of its servers
abbrev pub said : Dest → ServiceKey × DestSpec
said d = (d.service, d.spec)

abbrev pub said_rows : ServiceKey → List DestRow → List (ServiceKey × DestSpec)
said_rows key [] = []
said_rows key (row ∷ rows) = (key, row.dest.spec) ∷ said_rows key rows

-- the live servers of all services, in order
abbrev pub said_services : List DestRow → List Service → List (ServiceKey × DestSpec)
said_services rows [] = []
said_services rows (service ∷ services) = said_rows service.key (rows_of service.key rows) ++ said_services rows services

-- a director that has run the commands
abbrev pub after : State → List Command → State
after s commands = (run s (map (λ (command : Command). item.Edit command) commands)).1

-- the same services, whose schedulers begin anew, and the same servers in the same order, all live
pub record HasTables (tables : Snapshot) (s : State) : Type 0 where
  pub services : s.services ≡ map with_fresh_cursor tables.services
  pub servers : map said s.dests ≡ said_services tables.dests tables.services
  pub live : list_all (λ (d : Dest). d.live) s.dests ≡ true
