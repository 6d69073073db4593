-- What the command of a line of words can be, beside what the law of saved tables says of it.
use Rattle.std.proofs.Common.{◌≡◌, ℕ, ◌^◌, ◌≤◌, ◌<◌, Bool, true, false, cond, List, Option, Some, None, Result, Ok, length, refl, subst, lit<, lit≤}
use Rattle.std.specs.Prelude.{unwrap_or}
use Rattle.lvs_types.specs.declared.script.WordsCause.TheVariants as cause
use Rattle.lvs_types.specs.declared.service.ServiceKey.{ServiceKey}
use Rattle.lvs_types.specs.declared.service.ServiceKey.TheVariants.{Net, Mark}
use Rattle.lvs_types.specs.declared.service.Method.TheVariants.{Direct}
use Rattle.lvs_types.specs.declared.service.Service.{Service}
use Rattle.lvs_types.specs.declared.dest.DestSpec.{DestSpec}
use Rattle.lvs_types.specs.declared.book.Shown.{Shown}
use Rattle.lvs_types.specs.declared.book.Shown.TheVariants as shown
use Rattle.lvs_types.specs.declared.command.Line.{Line}
use Rattle.lvs_types.specs.declared.command.Line.TheVariants.{Edit, Show}
use Rattle.lvs_types.specs.declared.command.Command.{Command}
use Rattle.lvs_types.specs.declared.command.Command.TheVariants as command
use Rattle.lvs_model.specs.declared.admin.CommandName.{CommandName}
use Rattle.lvs_model.specs.declared.admin.CommandName.TheVariants.{AddService, EditService, DeleteService, ClearTables, AddServer, EditServer, DeleteServer, ListTables, SaveTables, SetTimeouts, StartDaemon, StopDaemon}
use Rattle.lvs_model.specs.declared.admin.DaemonRole.{DaemonRole}
use Rattle.lvs_model.specs.declared.admin.DaemonRole.TheVariants.{Master, Backup}
use Rattle.lvs_model.specs.declared.admin.GivenService.{GivenService}
use Rattle.lvs_model.specs.declared.admin.GivenEndpoint.{GivenEndpoint}
use Rattle.lvs_model.specs.declared.admin.WordsRead.{WordsRead}
use Rattle.lvs_model.specs.declared.admin.BadWord.{BadWord}
use Rattle.lvs_model.specs.Refusals.{◌>>=◌, needed}
use Rattle.lvs_model.specs.Edits.{fresh_cursor}
use Rattle.lvs_model.specs.AdminWords.{split_words, take_all}
use Rattle.lvs_model.specs.AdminLines.{settled, checked_mask, checked_one_packet, checked_port, service_of, read_service, service_port, server_of, read_server, server_removed, started, stopped, daemon_started, daemon_stopped, line_read, line_of_words}
use Rattle.lvs_listing.specs.Savable.{IsSayableKey}
use Rattle.lvs_laws.proofs.SaveNumbers.{IfGiven, IsSayableEndpoint}
use Rattle.lvs_laws.proofs.SaveWords.{IsSayableRead, then_ok, needed_some, all_sayable}
use Rattle.lvs_tidy.proofs.Ranges.{IsInRange, all_in_range}

abbrev pub IsMore : Command → Type 0
IsMore (command.AddService s) = s.cursor ≡ fresh_cursor
IsMore (command.EditService s) = s.cursor ≡ fresh_cursor
IsMore (command.RemoveService key) = IsSayableKey key
IsMore command.Clear = Unit {0}
IsMore (command.AddServer key d) = IsSayableKey key × (d.lower ≤ 4294967295)
IsMore (command.EditServer key d) = IsSayableKey key × (d.lower ≤ 4294967295)
IsMore (command.RemoveServer key addr port) = IsSayableKey key × (addr.number < 2 ^ 32) × (port < 2 ^ 16)
IsMore (command.Timeouts established fin_wait udp) = (established ≤ 2678400) × (fin_wait ≤ 2678400) × (udp ≤ 2678400)
IsMore (command.StartMaster id) = id ≤ 255
IsMore (command.StartBackup id) = id ≤ 255
IsMore command.StopMaster = Unit {0}
IsMore command.StopBackup = Unit {0}

-- a listing, and no answer to an ICMP error
abbrev pub IsListing : Shown → Type 0
IsListing shown.List = Unit {0}
IsListing shown.Conns = Unit {0}
IsListing shown.Save = Unit {0}
IsListing (shown.IcmpIn bytes) = ⊥
IsListing (shown.IcmpOut bytes) = ⊥

abbrev pub IsMoreLine : Line → Type 0
IsMoreLine (Edit c) = IsMore c
IsMoreLine (Show kind) = IsListing kind

line_is : (made line : Line) → ◌≡◌ {A = Result Line BadWord} (Ok made) (Ok line) → IsMoreLine made → IsMoreLine line
line_is made line e is = let same : made ≡ line = cc in subst IsMoreLine same is

command_is : (made other : Command) → ◌≡◌ {A = Result Command BadWord} (Ok made) (Ok other) → IsMore made → IsMore other
command_is made other e is = let same : made ≡ other = cc in subst IsMore same is

if_given : {A : Type 0} (P : A → Type 0) (o : Option A) (x : A) → o ≡ Some x → IfGiven P o → P x
if_given P None x e is = absurd cc
if_given P (Some y) x e is = let same : y ≡ x = cc in subst P same is

given_or : (P : ℕ → Type 0) (o : Option ℕ) (n : ℕ) → IfGiven P o → P n → P (unwrap_or o n)
given_or P None n is default = default
given_or P (Some m) n is default = is

port_of_service : (key : ServiceKey) → IsSayableKey key → service_port key < 2 ^ 16
port_of_service (Net proto addr port) is = is.1
port_of_service (Mark mark) is = lit< tt

key_said : (count : ℕ) (r : WordsRead) (g : GivenService) → needed count cause.Missing r.service ≡ Ok g → IsSayableRead r → IsSayableKey g.key
key_said count r g e w = if_given (λ (x : GivenService). IsSayableKey x.key) r.service g (needed_some count cause.Missing r.service g e) w.given

-- A SERVICE

service_fresh : (count : ℕ) (r : WordsRead) (service : Service) → read_service count r ≡ Ok service → service.cursor ≡ fresh_cursor
service_fresh count r service e =
    let given = then_ok (needed count cause.Missing r.service) (λ (g : GivenService). checked_mask r >>= (λ (_ : Unit {0}). checked_one_packet g r >>= (λ (_ : Unit {0}). checked_port g r >>= (λ (_ : Unit {0}). Ok (service_of g.key r))))) service e in
    let g = given.0 in
    let mask = then_ok (checked_mask r) (λ (_ : Unit {0}). checked_one_packet g r >>= (λ (_ : Unit {0}). checked_port g r >>= (λ (_ : Unit {0}). Ok (service_of g.key r)))) service given.2 in
    let one_packet = then_ok (checked_one_packet g r) (λ (_ : Unit {0}). checked_port g r >>= (λ (_ : Unit {0}). Ok (service_of g.key r))) service mask.2 in
    let port = then_ok (checked_port g r) (λ (_ : Unit {0}). Ok (service_of g.key r)) service one_packet.2 in
    let same : service_of g.key r ≡ service = cc in
    subst (λ (x : Service). x.cursor ≡ fresh_cursor) same refl

-- A SERVER

abbrev IsMoreServer : ServiceKey × DestSpec → Type 0
IsMoreServer server = IsSayableKey server.0 × (server.1.lower ≤ 4294967295)

server_more : (count : ℕ) (r : WordsRead) (server : ServiceKey × DestSpec) → read_server count r ≡ Ok server → IsSayableRead r → IsInRange r → IsMoreServer server
server_more count r server e w range =
    let given = then_ok (needed count cause.Missing r.service) (λ (g : GivenService). needed count cause.Missing r.server >>= (λ (x : GivenEndpoint). Ok (g.key, server_of (unwrap_or r.method Direct) g.key x r))) server e in
    let g = given.0 in
    let endpoint = then_ok (needed count cause.Missing r.server) (λ (x : GivenEndpoint). Ok (g.key, server_of (unwrap_or r.method Direct) g.key x r)) server given.2 in
    let made : ServiceKey × DestSpec = (g.key, server_of (unwrap_or r.method Direct) g.key endpoint.0 r) in
    let same : made ≡ server = cc in
    subst (λ (x : ServiceKey × DestSpec). IsMoreServer x) same (key_said count r g given.1 w, given_or (λ n. n ≤ 4294967295) r.lower 0 range.low (lit≤ tt))

removed_more : (count : ℕ) (r : WordsRead) (c : Command) → server_removed count r ≡ Ok c → IsSayableRead r → IsMore c
removed_more count r c e w =
    let given = then_ok (needed count cause.Missing r.service) (λ (g : GivenService). needed count cause.Missing r.server >>= (λ (x : GivenEndpoint). Ok (command.RemoveServer g.key x.addr (unwrap_or x.port (service_port g.key))))) c e in
    let g = given.0 in
    let endpoint = then_ok (needed count cause.Missing r.server) (λ (x : GivenEndpoint). Ok (command.RemoveServer g.key x.addr (unwrap_or x.port (service_port g.key)))) c given.2 in
    let key = key_said count r g given.1 w in
    let stands = if_given IsSayableEndpoint r.server endpoint.0 (needed_some count cause.Missing r.server endpoint.0 endpoint.1) w.stands in
    command_is (command.RemoveServer g.key endpoint.0.addr (unwrap_or endpoint.0.port (service_port g.key))) c endpoint.2
    (key, stands.0, given_or (λ n. n < 2 ^ 16) endpoint.0.port (service_port g.key) stands.1 (port_of_service g.key key))

-- A DAEMON

started_more : (role : DaemonRole) (id : ℕ) → id ≤ 255 → IsMore (started role id)
started_more Master id low = low
started_more Backup id low = low

stopped_more : (role : DaemonRole) → IsMore (stopped role)
stopped_more Master = tt
stopped_more Backup = tt

-- A LISTING

listing_more : (b : Bool) → IsListing (cond b shown.Conns shown.List)
listing_more true = tt
listing_more false = tt

-- A LINE

abbrev edit_of : Command → Result Line BadWord
edit_of c = Ok (Edit c)

line_more : (count : ℕ) (r : WordsRead) (name : CommandName) (line : Line) → line_read count r name ≡ Ok line → IsSayableRead r → IsInRange r → IsMoreLine line
line_more count r AddService line e w range =
    let service = then_ok (read_service count r) (λ (x : Service). edit_of (command.AddService x)) line e in
    line_is (Edit (command.AddService service.0)) line service.2 (service_fresh count r service.0 service.1)
line_more count r EditService line e w range =
    let service = then_ok (read_service count r) (λ (x : Service). edit_of (command.EditService x)) line e in
    line_is (Edit (command.EditService service.0)) line service.2 (service_fresh count r service.0 service.1)
line_more count r DeleteService line e w range =
    let service = then_ok (needed count cause.Missing r.service) (λ (x : GivenService). edit_of (command.RemoveService x.key)) line e in
    line_is (Edit (command.RemoveService service.0.key)) line service.2 (key_said count r service.0 service.1 w)
line_more count r ClearTables line e w range = line_is (Edit command.Clear) line e tt
line_more count r AddServer line e w range =
    let server = then_ok (read_server count r) (λ (x : ServiceKey × DestSpec). edit_of (command.AddServer x.0 x.1)) line e in
    line_is (Edit (command.AddServer server.0.0 server.0.1)) line server.2 (server_more count r server.0 server.1 w range)
line_more count r EditServer line e w range =
    let server = then_ok (read_server count r) (λ (x : ServiceKey × DestSpec). edit_of (command.EditServer x.0 x.1)) line e in
    line_is (Edit (command.EditServer server.0.0 server.0.1)) line server.2 (server_more count r server.0 server.1 w range)
line_more count r DeleteServer line e w range =
    let removed = then_ok (server_removed count r) edit_of line e in
    line_is (Edit removed.0) line removed.2 (removed_more count r removed.0 removed.1 w)
line_more count r ListTables line e w range = line_is (Show _) line e (listing_more r.connection)
line_more count r SaveTables line e w range = line_is (Show shown.Save) line e tt
line_more count r SetTimeouts line e w range = line_is (Edit (command.Timeouts r.established r.fin_wait r.udp)) line e (range.first, range.second, range.third)
line_more count r StartDaemon line e w range =
    let edit = then_ok (daemon_started count r) edit_of line e in
    let role = then_ok (needed count cause.Missing r.role) (λ (x : DaemonRole). Ok (started x (unwrap_or r.sync_id 0))) edit.0 edit.1 in
    line_is (Edit edit.0) line edit.2 (command_is (started role.0 (unwrap_or r.sync_id 0)) edit.0 role.2 (started_more role.0 (unwrap_or r.sync_id 0) (given_or (λ n. n ≤ 255) r.sync_id 0 range.id (lit≤ tt))))
line_more count r StopDaemon line e w range =
    let edit = then_ok (daemon_stopped count r) edit_of line e in
    let role = then_ok (needed count cause.Missing r.role) (λ (x : DaemonRole). Ok (stopped x)) edit.0 edit.1 in
    line_is (Edit edit.0) line edit.2 (command_is (stopped role.0) edit.0 role.2 (stopped_more role.0))

pub words_more : (words : List (List ℕ)) (line : Line) → line_of_words words ≡ Ok line → IsMoreLine line
words_more words line e =
    let split = split_words words in
    let read = then_ok (take_all split) (λ (r : WordsRead). settled (length split) r >>= (λ (_ : Unit {0}). line_read (length split) r r.command)) line e in
    let r = read.0 in
    let rest = then_ok (settled (length split) r) (λ (_ : Unit {0}). line_read (length split) r r.command) line read.2 in
    line_more (length split) r r.command line rest.2 (all_sayable split r read.1) (all_in_range split r read.1)
