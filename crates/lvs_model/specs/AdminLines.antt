-- What a line of ipvsadm(8) words means once all were read: what is looked at after the last word, and the command.
use Rattle.std.specs.Prelude.{ℕ, Bool, true, false, not, ◌&&◌, ◌==◌, List, length, Option, None, Result, Ok, if◌then◌else◌, is_some, unwrap_or}
use Rattle.lvs_types.specs.declared.script.WordsCause.TheVariants as cause
use Rattle.lvs_types.specs.declared.service.ServiceKey.{ServiceKey}
use Rattle.lvs_types.specs.declared.service.ServiceKey.TheVariants.{Net, Mark}
use Rattle.lvs_types.specs.declared.service.Method.{Method}
use Rattle.lvs_types.specs.declared.service.Method.TheVariants.{Masq, Tunnel, Direct}
use Rattle.lvs_types.specs.declared.service.Scheduler.TheVariants.{Wlc}
use Rattle.lvs_types.specs.declared.service.Service.{Service}
use Rattle.lvs_types.specs.declared.dest.DestSpec.{DestSpec}
use Rattle.lvs_types.specs.declared.command.Line.{Line}
use Rattle.lvs_types.specs.declared.command.Line.TheVariants.{Edit, Show}
use Rattle.lvs_types.specs.declared.command.Command.{Command}
use Rattle.lvs_types.specs.declared.command.Command.TheVariants as command
use Rattle.lvs_types.specs.declared.book.Shown.{Shown}
use Rattle.lvs_types.specs.declared.book.Shown.TheVariants as shown
use Rattle.lvs_model.specs.declared.admin.CommandName.{CommandName}
use Rattle.lvs_model.specs.declared.admin.CommandName.TheVariants.{AddService, EditService, DeleteService, ClearTables, AddServer, EditServer, DeleteServer, ListTables, SaveTables, SetTimeouts, StartDaemon, StopDaemon}
use Rattle.lvs_model.specs.declared.admin.OptionName.TheVariants.{Persistent}
use Rattle.lvs_model.specs.declared.admin.Awaited.{Awaited}
use Rattle.lvs_model.specs.declared.admin.Awaited.TheVariants.{AnOption, ValueOf}
use Rattle.lvs_model.specs.declared.admin.DaemonRole.{DaemonRole}
use Rattle.lvs_model.specs.declared.admin.DaemonRole.TheVariants.{Master, Backup}
use Rattle.lvs_model.specs.declared.admin.GivenService.{GivenService}
use Rattle.lvs_model.specs.declared.admin.GivenEndpoint.{GivenEndpoint}
use Rattle.lvs_model.specs.declared.admin.WordsRead.{WordsRead}
use Rattle.lvs_model.specs.declared.admin.BadWord.{BadWord}
use Rattle.lvs_model.specs.Refusals.{◌>>=◌, refused, needed, forbidden}
use Rattle.lvs_model.specs.AdminWords.{is_tcp_service, split_words, take_all}

-- no word is awaited: an option may come or not, and so may the value of `-p`
abbrev pub is_settled : Awaited → Bool
is_settled AnOption = true
is_settled (ValueOf Persistent) = true
is_settled _ = false

-- a word that is awaited where no word is left
abbrev pub settled : ℕ → WordsRead → Result (Unit {0}) BadWord
settled count r = if is_settled r.awaited then Ok tt else refused count cause.Missing

-- A SERVICE

-- a mask without persistence
abbrev pub checked_mask : WordsRead → Result (Unit {0}) BadWord
checked_mask r = if is_some r.persist then Ok tt else forbidden cause.Conflict r.netmask_at

-- one-packet scheduling of TCP
abbrev pub checked_one_packet : GivenService → WordsRead → Result (Unit {0}) BadWord
checked_one_packet service r = if is_tcp_service service.key then forbidden cause.Conflict r.one_packet_at else Ok tt

-- a service of every port of its address
abbrev pub is_portless : ServiceKey → Bool
is_portless (Net proto addr port) = port == 0
is_portless (Mark mark) = false

-- a service of every port without persistence
abbrev pub checked_port : GivenService → WordsRead → Result (Unit {0}) BadWord
checked_port service r = if is_portless service.key && not (is_some r.persist) then refused service.at cause.ZeroPort else Ok tt

-- the service of `-A` and `-E`, with the defaults of what wasn't given
abbrev pub service_of : ServiceKey → WordsRead → Service
service_of key r = record {
  key = key;
  scheduler = unwrap_or r.scheduler Wlc;
  persist = r.persist;
  mask_bits = unwrap_or r.mask_bits 32;
  one_packet = is_some r.one_packet_at;
  cursor = record { last = None; cw = 0 };
}

abbrev pub read_service : ℕ → WordsRead → Result Service BadWord
read_service count r = do
  service ← needed count cause.Missing r.service
  _ ← checked_mask r
  _ ← checked_one_packet service r
  _ ← checked_port service r
  Ok (service_of service.key r)

-- A SERVER

-- the port of a service, 0 for a mark
abbrev pub service_port : ServiceKey → ℕ
service_port (Net proto addr port) = port
service_port (Mark mark) = 0

-- the port of a server: under masquerading the written one, or else the service's
abbrev pub server_port : Method → ServiceKey → Option ℕ → ℕ
server_port Masq key port = unwrap_or port (service_port key)
server_port Tunnel key port = service_port key
server_port Direct key port = service_port key

-- the server of `-a` and `-e`, with the defaults of what wasn't given
abbrev pub server_of : Method → ServiceKey → GivenEndpoint → WordsRead → DestSpec
server_of method key endpoint r = record {
  addr = endpoint.addr;
  port = server_port method key endpoint.port;
  method = method;
  weight = unwrap_or r.weight 1;
  upper = unwrap_or r.upper 0;
  lower = unwrap_or r.lower 0;
}

abbrev pub read_server : ℕ → WordsRead → Result (ServiceKey × DestSpec) BadWord
read_server count r = do
  service ← needed count cause.Missing r.service
  endpoint ← needed count cause.Missing r.server
  Ok (service.key, server_of (unwrap_or r.method Direct) service.key endpoint r)

-- the command of `-d`: without a method, the port is the written one, or else the service's
abbrev pub server_removed : ℕ → WordsRead → Result Command BadWord
server_removed count r = do
  service ← needed count cause.Missing r.service
  endpoint ← needed count cause.Missing r.server
  Ok (command.RemoveServer service.key endpoint.addr (unwrap_or endpoint.port (service_port service.key)))

-- A DAEMON

abbrev pub started : DaemonRole → ℕ → Command
started Master id = command.StartMaster id
started Backup id = command.StartBackup id

abbrev pub stopped : DaemonRole → Command
stopped Master = command.StopMaster
stopped Backup = command.StopBackup

abbrev pub daemon_started : ℕ → WordsRead → Result Command BadWord
daemon_started count r = do
  role ← needed count cause.Missing r.role
  Ok (started role (unwrap_or r.sync_id 0))

abbrev pub daemon_stopped : ℕ → WordsRead → Result Command BadWord
daemon_stopped count r = do
  role ← needed count cause.Missing r.role
  Ok (stopped role)

-- A LINE

-- the listing of `-L`
abbrev pub listing_of : WordsRead → Shown
listing_of r = if r.connection then shown.Conns else shown.List

-- the line of a command, from all that was read
abbrev pub line_read : ℕ → WordsRead → CommandName → Result Line BadWord
line_read count r AddService = do
  service ← read_service count r
  Ok (Edit (command.AddService service))
line_read count r EditService = do
  service ← read_service count r
  Ok (Edit (command.EditService service))
line_read count r DeleteService = do
  service ← needed count cause.Missing r.service
  Ok (Edit (command.RemoveService service.key))
line_read count r ClearTables = Ok (Edit command.Clear)
line_read count r AddServer = do
  server ← read_server count r
  Ok (Edit (command.AddServer server.0 server.1))
line_read count r EditServer = do
  server ← read_server count r
  Ok (Edit (command.EditServer server.0 server.1))
line_read count r DeleteServer = do
  edit ← server_removed count r
  Ok (Edit edit)
line_read count r ListTables = Ok (Show (listing_of r))
line_read count r SaveTables = Ok (Show shown.Save)
line_read count r SetTimeouts = Ok (Edit (command.Timeouts r.established r.fin_wait r.udp))
line_read count r StartDaemon = do
  edit ← daemon_started count r
  Ok (Edit edit)
line_read count r StopDaemon = do
  edit ← daemon_stopped count r
  Ok (Edit edit)

-- the line of words that were split
abbrev pub line_of_split : List (List ℕ) → Result Line BadWord
line_of_split words = do
  r ← take_all words
  _ ← settled (length words) r
  line_read (length words) r r.command

-- what a list of words means: the line, or the first refused word, numbered from 0 after the splitting
abbrev pub line_of_words : List (List ℕ) → Result Line BadWord
line_of_words words = line_of_split (split_words words)
