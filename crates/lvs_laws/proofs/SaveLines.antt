-- The command of a line is one that words can say.
use Rattle.std.proofs.Common.{◌≡◌, ℕ, ◌^◌, ◌≤◌, ◌<◌, Bool, true, false, not, ◌&&◌, cond, List, Option, Some, None, Result, Ok, length, refl, subst, is_some, lit<, lit≤, arith}
use Rattle.std.specs.Prelude.{unwrap_or}
use Rattle.lvs_types.specs.declared.script.WordsCause.TheVariants as cause
use Rattle.lvs_types.specs.declared.service.ServiceKey.{ServiceKey}
use Rattle.lvs_types.specs.declared.service.ServiceKey.TheVariants.{Net, Mark}
use Rattle.lvs_types.specs.declared.service.Method.{Method}
use Rattle.lvs_types.specs.declared.service.Method.TheVariants.{Masq, Tunnel, Direct}
use Rattle.lvs_types.specs.declared.service.Service.{Service}
use Rattle.lvs_types.specs.declared.dest.DestSpec.{DestSpec}
use Rattle.lvs_types.specs.declared.command.Line.{Line}
use Rattle.lvs_types.specs.declared.command.Line.TheVariants.{Edit, Show}
use Rattle.lvs_types.specs.declared.command.Command.{Command}
use Rattle.lvs_types.specs.declared.command.Command.TheVariants as command
use Rattle.lvs_model.specs.declared.admin.CommandName.{CommandName}
use Rattle.lvs_model.specs.declared.admin.CommandName.TheVariants.{AddService, EditService, DeleteService, ClearTables, AddServer, EditServer, DeleteServer, ListTables, SaveTables, SetTimeouts, StartDaemon, StopDaemon}
use Rattle.lvs_model.specs.declared.admin.DaemonRole.{DaemonRole}
use Rattle.lvs_model.specs.declared.admin.DaemonRole.TheVariants.{Master, Backup}
use Rattle.lvs_model.specs.declared.admin.GivenService.{GivenService}
use Rattle.lvs_model.specs.declared.admin.GivenEndpoint.{GivenEndpoint}
use Rattle.lvs_model.specs.declared.admin.WordsRead.{WordsRead}
use Rattle.lvs_model.specs.declared.admin.BadWord.{BadWord}
use Rattle.lvs_model.specs.Refusals.{◌>>=◌, refused, needed, forbidden}
use Rattle.lvs_model.specs.Same.{method_eq}
use Rattle.lvs_model.specs.AdminWords.{is_tcp_service, split_words, take_all}
use Rattle.lvs_model.specs.AdminLines.{settled, checked_mask, checked_one_packet, checked_port, is_portless, service_of, read_service, service_port, server_port, server_of, read_server, server_removed, started, stopped, daemon_started, daemon_stopped, line_read, line_of_words}
use Rattle.lvs_listing.specs.Savable.{IsSayableKey, IsSayablePersistence, IsSayableService}
use Rattle.lvs_laws.specs.Saying.{IsSayableSpec, IsSayableCommand}
use Rattle.lvs_laws.proofs.SaveNumbers.{IfGiven, IsSayableEndpoint}
use Rattle.lvs_laws.proofs.SaveWords.{IsSayableRead, then_ok, needed_some, all_sayable}

if_given : {A : Type 0} (P : A → Type 0) (o : Option A) (x : A) → o ≡ Some x → IfGiven P o → P x
if_given P None x e is = absurd cc
if_given P (Some y) x e is = let same : y ≡ x = cc in subst P same is

-- A SERVICE

persistence_said : (persist netmask mask : Option ℕ) (portless : Bool) (at : ℕ) (x y : Unit {0}) → IfGiven (λ n. (1 ≤ n) × (n ≤ 2678400)) persist → IfGiven (λ n. n ≤ 32) mask → (netmask ≡ None → mask ≡ None)
    → cond (is_some persist) (Ok tt) (forbidden cause.Conflict netmask) ≡ Ok x → cond (portless && not (is_some persist)) (refused at cause.ZeroPort) (Ok tt) ≡ Ok y → IsSayablePersistence persist (unwrap_or mask 32) portless
persistence_said (Some n) netmask None portless at x y lasts bits masked first second = (lasts.0, lasts.1, lit≤ tt)
persistence_said (Some n) netmask (Some m) portless at x y lasts bits masked first second = (lasts.0, lasts.1, bits)
persistence_said None (Some k) mask portless at x y lasts bits masked first second = absurd cc
persistence_said None None (Some m) portless at x y lasts bits masked first second = let wrong : ◌≡◌ {A = Option ℕ} (Some m) None = masked refl in absurd cc
persistence_said None None None true at x y lasts bits masked first second = absurd cc
persistence_said None None None false at x y lasts bits masked first second = (refl, refl)

one_packet_said : (tcp : Bool) (at : Option ℕ) (x : Unit {0}) → cond tcp (forbidden cause.Conflict at) (Ok tt) ≡ Ok x → (tcp && is_some at) ≡ false
one_packet_said true None x e = refl
one_packet_said true (Some n) x e = absurd cc
one_packet_said false at x e = refl

service_said : (count : ℕ) (r : WordsRead) (service : Service) → read_service count r ≡ Ok service → IsSayableRead r → IsSayableService service
service_said count r service e w =
    let given = then_ok (needed count cause.Missing r.service) (λ (g : GivenService). checked_mask r >>= (λ (_ : Unit {0}). checked_one_packet g r >>= (λ (_ : Unit {0}). checked_port g r >>= (λ (_ : Unit {0}). Ok (service_of g.key r))))) service e in
    let g = given.0 in
    let mask = then_ok (checked_mask r) (λ (_ : Unit {0}). checked_one_packet g r >>= (λ (_ : Unit {0}). checked_port g r >>= (λ (_ : Unit {0}). Ok (service_of g.key r)))) service given.2 in
    let one_packet = then_ok (checked_one_packet g r) (λ (_ : Unit {0}). checked_port g r >>= (λ (_ : Unit {0}). Ok (service_of g.key r))) service mask.2 in
    let port = then_ok (checked_port g r) (λ (_ : Unit {0}). Ok (service_of g.key r)) service one_packet.2 in
    let same : service_of g.key r ≡ service = cc in
    let said : IsSayableService (service_of g.key r) = record {
      key = if_given (λ (x : GivenService). IsSayableKey x.key) r.service g (needed_some count cause.Missing r.service g given.1) w.given;
      persistence = persistence_said r.persist r.netmask_at r.mask_bits (is_portless g.key) g.at mask.0 port.0 w.lasts w.bits (λ none. (w.masked none).0) mask.1 port.1;
      one_packet = one_packet_said (is_tcp_service g.key) r.one_packet_at one_packet.0 one_packet.1;
    } in
    subst (λ (x : Service). IsSayableService x) same said

-- A SERVER

port_of_service : (key : ServiceKey) → IsSayableKey key → service_port key < 2 ^ 16
port_of_service (Net proto addr port) is = is.1
port_of_service (Mark mark) is = lit< tt

given_or : (P : ℕ → Type 0) (o : Option ℕ) (n : ℕ) → IfGiven P o → P n → P (unwrap_or o n)
given_or P None n is default = default
given_or P (Some m) n is default = is

port_said : (method : Method) (key : ServiceKey) (port : Option ℕ) → IsSayableKey key → IfGiven (λ n. n < 2 ^ 16) port → server_port method key port < 2 ^ 16
port_said Masq key port is small = given_or (λ n. n < 2 ^ 16) port (service_port key) small (port_of_service key is)
port_said Tunnel key port is small = port_of_service key is
port_said Direct key port is small = port_of_service key is

port_same : (method : Method) (key : ServiceKey) (port : Option ℕ) → method_eq method Masq ≡ false → server_port method key port ≡ service_port key
port_same Masq key port differs = absurd cc
port_same Tunnel key port differs = refl
port_same Direct key port differs = refl

spec_said : (method : Method) (key : ServiceKey) (endpoint : GivenEndpoint) (r : WordsRead) → IsSayableKey key → IsSayableEndpoint endpoint → IsSayableRead r → IsSayableSpec key (server_of method key endpoint r)
spec_said method key endpoint r is stands w = record {
  addr = stands.0;
  port = port_said method key endpoint.port is stands.1;
  port_kept = λ differs. port_same method key endpoint.port differs;
  weight = given_or (λ n. n ≤ 2147483647) r.weight 1 w.weighs (lit≤ tt);
  upper = given_or (λ n. n < 2 ^ 32) r.upper 0 w.bounded (lit< tt);
  lower = omega arith;
}

server_said : (count : ℕ) (r : WordsRead) (server : ServiceKey × DestSpec) → read_server count r ≡ Ok server → IsSayableRead r → IsSayableSpec server.0 server.1
server_said count r server e w =
    let given = then_ok (needed count cause.Missing r.service) (λ (g : GivenService). needed count cause.Missing r.server >>= (λ (x : GivenEndpoint). Ok (g.key, server_of (unwrap_or r.method Direct) g.key x r))) server e in
    let g = given.0 in
    let endpoint = then_ok (needed count cause.Missing r.server) (λ (x : GivenEndpoint). Ok (g.key, server_of (unwrap_or r.method Direct) g.key x r)) server given.2 in
    let made : ServiceKey × DestSpec = (g.key, server_of (unwrap_or r.method Direct) g.key endpoint.0 r) in
    let same : made ≡ server = cc in
    subst (λ (x : ServiceKey × DestSpec). IsSayableSpec x.0 x.1) same
    (spec_said (unwrap_or r.method Direct) g.key endpoint.0 r
    (if_given (λ (x : GivenService). IsSayableKey x.key) r.service g (needed_some count cause.Missing r.service g given.1) w.given)
    (if_given IsSayableEndpoint r.server endpoint.0 (needed_some count cause.Missing r.server endpoint.0 endpoint.1) w.stands) w)

-- A LINE

abbrev IsSayableLine : Line → Type 0
IsSayableLine (Edit given) = IsSayableCommand given
IsSayableLine (Show shown) = Unit {0}

line_is : (made line : Line) → ◌≡◌ {A = Result Line BadWord} (Ok made) (Ok line) → IsSayableLine made → IsSayableLine line
line_is made line e is = let same : made ≡ line = cc in subst IsSayableLine same is

started_said : (role : DaemonRole) (id : ℕ) → IsSayableCommand (started role id)
started_said Master id = tt
started_said Backup id = tt

stopped_said : (role : DaemonRole) → IsSayableCommand (stopped role)
stopped_said Master = tt
stopped_said Backup = tt

command_is : (made other : Command) → ◌≡◌ {A = Result Command BadWord} (Ok made) (Ok other) → IsSayableCommand made → IsSayableCommand other
command_is made other e is = let same : made ≡ other = cc in subst IsSayableCommand same is

abbrev edit_of : Command → Result Line BadWord
edit_of c = Ok (Edit c)

line_said : (count : ℕ) (r : WordsRead) (name : CommandName) (line : Line) → line_read count r name ≡ Ok line → IsSayableRead r → IsSayableLine line
line_said count r AddService line e w =
    let service = then_ok (read_service count r) (λ (x : Service). edit_of (command.AddService x)) line e in
    line_is (Edit (command.AddService service.0)) line service.2 (service_said count r service.0 service.1 w)
line_said count r EditService line e w =
    let service = then_ok (read_service count r) (λ (x : Service). edit_of (command.EditService x)) line e in
    line_is (Edit (command.EditService service.0)) line service.2 (service_said count r service.0 service.1 w)
line_said count r DeleteService line e w =
    let service = then_ok (needed count cause.Missing r.service) (λ (x : GivenService). edit_of (command.RemoveService x.key)) line e in
    line_is (Edit (command.RemoveService service.0.key)) line service.2 tt
line_said count r ClearTables line e w = line_is (Edit command.Clear) line e tt
line_said count r AddServer line e w =
    let server = then_ok (read_server count r) (λ (x : ServiceKey × DestSpec). edit_of (command.AddServer x.0 x.1)) line e in
    line_is (Edit (command.AddServer server.0.0 server.0.1)) line server.2 (server_said count r server.0 server.1 w)
line_said count r EditServer line e w =
    let server = then_ok (read_server count r) (λ (x : ServiceKey × DestSpec). edit_of (command.EditServer x.0 x.1)) line e in
    line_is (Edit (command.EditServer server.0.0 server.0.1)) line server.2 (server_said count r server.0 server.1 w)
line_said count r DeleteServer line e w =
    let removed = then_ok (server_removed count r) edit_of line e in
    let given = then_ok (needed count cause.Missing r.service) (λ (g : GivenService). needed count cause.Missing r.server >>= (λ (x : GivenEndpoint). Ok (command.RemoveServer g.key x.addr (unwrap_or x.port (service_port g.key))))) removed.0 removed.1 in
    let g = given.0 in
    let endpoint = then_ok (needed count cause.Missing r.server) (λ (x : GivenEndpoint). Ok (command.RemoveServer g.key x.addr (unwrap_or x.port (service_port g.key)))) removed.0 given.2 in
    line_is (Edit removed.0) line removed.2 (command_is (command.RemoveServer g.key endpoint.0.addr (unwrap_or endpoint.0.port (service_port g.key))) removed.0 endpoint.2 tt)
line_said count r ListTables line e w = line_is (Show _) line e tt
line_said count r SaveTables line e w = line_is (Show _) line e tt
line_said count r SetTimeouts line e w = line_is (Edit (command.Timeouts r.established r.fin_wait r.udp)) line e tt
line_said count r StartDaemon line e w =
    let edit = then_ok (daemon_started count r) edit_of line e in
    let role = then_ok (needed count cause.Missing r.role) (λ (x : DaemonRole). Ok (started x (unwrap_or r.sync_id 0))) edit.0 edit.1 in
    line_is (Edit edit.0) line edit.2 (command_is (started role.0 (unwrap_or r.sync_id 0)) edit.0 role.2 (started_said role.0 (unwrap_or r.sync_id 0)))
line_said count r StopDaemon line e w =
    let edit = then_ok (daemon_stopped count r) edit_of line e in
    let role = then_ok (needed count cause.Missing r.role) (λ (x : DaemonRole). Ok (stopped x)) edit.0 edit.1 in
    line_is (Edit edit.0) line edit.2 (command_is (stopped role.0) edit.0 role.2 (stopped_said role.0))

split_said : (words : List (List ℕ)) (line : Line) → line_of_words words ≡ Ok line → IsSayableLine line
split_said words line e =
    let split = split_words words in
    let read = then_ok (take_all split) (λ (r : WordsRead). settled (length split) r >>= (λ (_ : Unit {0}). line_read (length split) r r.command)) line e in
    let r = read.0 in
    let rest = then_ok (settled (length split) r) (λ (_ : Unit {0}). line_read (length split) r r.command) line read.2 in
    line_said (length split) r r.command line rest.2 (all_sayable split r read.1)

pub words_said : (words : List (List ℕ)) (given : Command) → line_of_words words ≡ Ok (Edit given) → IsSayableCommand given
words_said words given e = split_said words (Edit given) e
