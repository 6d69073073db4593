-- The words of ipvsadm(8) from left to right (this project's profile): each is an option or the value that the word before asks for, and the first refusal counts.
use Rattle.std.specs.Prelude.{ℕ, ◌+◌, Bool, true, false, not, ◌&&◌, ◌||◌, ◌==◌, List, [], ◌∷◌, length, drop, flat_map, map, Option, Some, None, Result, Ok, if◌then◌else◌, is_some, unwrap_or, nat_le, codes, bytes_eq}
use Rattle.std.specs.List.{list_all}
use Rattle.std.specs.Char.{is_ascii_alphabetic}
use Rattle.lvs_types.specs.declared.script.WordsCause.TheVariants as cause
use Rattle.lvs_types.specs.declared.service.ServiceKey.{ServiceKey}
use Rattle.lvs_types.specs.declared.service.ServiceKey.TheVariants.{Net, Mark}
use Rattle.lvs_types.specs.declared.service.Proto.{Proto}
use Rattle.lvs_types.specs.declared.service.Proto.TheVariants.{Tcp, Udp}
use Rattle.lvs_types.specs.declared.service.Method.{Method}
use Rattle.lvs_types.specs.declared.service.Method.TheVariants.{Masq, Tunnel, Direct}
use Rattle.lvs_types.specs.Schedulers.{scheduler_named}
use Rattle.lvs_model.specs.declared.admin.CommandName.{CommandName}
use Rattle.lvs_model.specs.declared.admin.CommandName.TheVariants.{SetTimeouts, StartDaemon, StopDaemon}
use Rattle.lvs_model.specs.declared.admin.OptionName.{OptionName}
use Rattle.lvs_model.specs.declared.admin.OptionName.TheVariants.{TcpService, UdpService, FwmarkService, Scheduling, Persistent, Netmask, OnePacket, RealServer, Gatewaying, Ipip, Masquerading, Weight, UpperThreshold, LowerThreshold, Numeric, Connection, SyncId, McastInterface}
use Rattle.lvs_model.specs.declared.admin.Awaited.{Awaited}
use Rattle.lvs_model.specs.declared.admin.Awaited.TheVariants.{AnOption, ValueOf, EstablishedTimeout, FinWaitTimeout, UdpTimeout, Role}
use Rattle.lvs_model.specs.declared.admin.DaemonRole.{DaemonRole}
use Rattle.lvs_model.specs.declared.admin.DaemonRole.TheVariants.{Master, Backup}
use Rattle.lvs_model.specs.declared.admin.GivenService.{GivenService}
use Rattle.lvs_model.specs.declared.admin.GivenEndpoint.{GivenEndpoint}
use Rattle.lvs_model.specs.declared.admin.WordsRead.{WordsRead}
use Rattle.lvs_model.specs.declared.admin.BadWord.{BadWord}
use Rattle.lvs_model.specs.Decimals.{is_number, number_between, cut_at, endpoint_of, mask_of}
use Rattle.lvs_model.specs.Refusals.{◌>>=◌, refused, needed}
use Rattle.lvs_model.specs.AdminTables.{command_of, option_of, allows}

-- SPLITTING. A word of one dash (45) and two or more letters is a word of a dash and a letter for each of them; a word of two dashes with an equals sign (61)
-- is the word before it and the word behind it; every other word stays. This is one pass: what comes out isn't split again.

-- whether a word is one dash and two or more letters
abbrev pub is_cluster : List ℕ → Bool
is_cluster [] = false
is_cluster (first ∷ letters) = (first == 45) && nat_le 2 (length letters) && list_all is_ascii_alphabetic letters

-- whether a word begins with two dashes
abbrev pub is_long : List ℕ → Bool
is_long [] = false
is_long (first ∷ []) = false
is_long (first ∷ second ∷ rest) = (first == 45) && (second == 45)

-- the word before the first equals sign, and the word behind it
abbrev pub assignment_of : List ℕ → Option (List ℕ × List ℕ)
assignment_of word = if is_long word then cut_at 61 word else None

-- a dash and a letter
abbrev pub letter_word : ℕ → List ℕ
letter_word letter = 45 ∷ letter ∷ []

-- by whether a value is joined to the word
abbrev pub split_assignment : List ℕ → Option (List ℕ × List ℕ) → List (List ℕ)
split_assignment word None = word ∷ []
split_assignment word (Some parts) = parts.0 ∷ parts.1 ∷ []

abbrev pub split_word : List ℕ → List (List ℕ)
split_word word = if is_cluster word then map letter_word (drop 1 word) else split_assignment word (assignment_of word)

abbrev pub split_words : List (List ℕ) → List (List ℕ)
split_words words = flat_map split_word words

-- WHAT A WORD STANDS FOR

-- whether a word begins with a dash
abbrev pub is_dashed : List ℕ → Bool
is_dashed [] = false
is_dashed (first ∷ rest) = first == 45

abbrev pub is_service_option : OptionName → Bool
is_service_option TcpService = true
is_service_option UdpService = true
is_service_option FwmarkService = true
is_service_option _ = false

abbrev pub is_method_option : OptionName → Bool
is_method_option Gatewaying = true
is_method_option Ipip = true
is_method_option Masquerading = true
is_method_option _ = false

abbrev pub is_tcp_service : ServiceKey → Bool
is_tcp_service (Net Tcp addr port) = true
is_tcp_service (Net Udp addr port) = false
is_tcp_service (Mark mark) = false

abbrev pub is_udp_service : ServiceKey → Bool
is_udp_service (Net Tcp addr port) = false
is_udp_service (Net Udp addr port) = true
is_udp_service (Mark mark) = false

abbrev pub is_mark : ServiceKey → Bool
is_mark (Net proto addr port) = false
is_mark (Mark mark) = true

-- whether a service was given, of a kind
abbrev pub has_service : (ServiceKey → Bool) → Option GivenService → Bool
has_service kind None = false
has_service kind (Some service) = kind service.key

-- whether a method was given, and is this one
abbrev pub has_method : Method → Option Method → Bool
has_method Masq (Some Masq) = true
has_method Tunnel (Some Tunnel) = true
has_method Direct (Some Direct) = true
has_method _ _ = false

-- whether an option was given before
abbrev pub is_given : WordsRead → OptionName → Bool
is_given r TcpService = has_service is_tcp_service r.service
is_given r UdpService = has_service is_udp_service r.service
is_given r FwmarkService = has_service is_mark r.service
is_given r Scheduling = is_some r.scheduler
is_given r Persistent = is_some r.persist
is_given r Netmask = is_some r.netmask_at
is_given r OnePacket = is_some r.one_packet_at
is_given r RealServer = is_some r.server
is_given r Gatewaying = has_method Direct r.method
is_given r Ipip = has_method Tunnel r.method
is_given r Masquerading = has_method Masq r.method
is_given r Weight = is_some r.weight
is_given r UpperThreshold = is_some r.upper
is_given r LowerThreshold = is_some r.lower
is_given r Numeric = r.numeric
is_given r Connection = r.connection
is_given r SyncId = is_some r.sync_id
is_given r McastInterface = r.interface

-- whether an option is a second service option or a second method
abbrev pub is_second : WordsRead → OptionName → Bool
is_second r option = (is_service_option option && is_some r.service) || (is_method_option option && is_some r.method)

-- AN OPTION

-- an option that may stand here: what it says by itself, and that its value comes next, where it has one
abbrev pub with_option : ℕ → OptionName → WordsRead → WordsRead
with_option at Persistent r = record r { persist = Some 300; awaited = ValueOf Persistent }
with_option at Netmask r = record r { netmask_at = Some at; awaited = ValueOf Netmask }
with_option at OnePacket r = record r { one_packet_at = Some at }
with_option at Gatewaying r = record r { method = Some Direct }
with_option at Ipip r = record r { method = Some Tunnel }
with_option at Masquerading r = record r { method = Some Masq }
with_option at Numeric r = record r { numeric = true }
with_option at Connection r = record r { connection = true }
with_option at option r = record r { awaited = ValueOf option }

-- an option: repeated, in conflict with the command or another option, or taken
abbrev pub take_known : ℕ → OptionName → WordsRead → Result WordsRead BadWord
take_known at option r =
    if is_given r option then refused at cause.Repeated
    else if not (allows r.command option) || is_second r option then refused at cause.Conflict
    else Ok (with_option at option r)

-- by the option that the word names, and the command that it names
abbrev pub take_named : ℕ → Option OptionName → Option CommandName → WordsRead → Result WordsRead BadWord
take_named at (Some option) command r = take_known at option r
take_named at None (Some command) r = refused at cause.Conflict
take_named at None None r = refused at cause.UnknownOption

-- a word where an option is due
abbrev pub take_option : ℕ → List ℕ → WordsRead → Result WordsRead BadWord
take_option at word r = if is_dashed word then take_named at (option_of word) (command_of word) r else refused at cause.Extra

-- A VALUE

-- ADDR or ADDR:PORT of a service, port 0 where none is written
abbrev pub service_key_of : Proto → GivenEndpoint → ServiceKey
service_key_of proto endpoint = Net proto endpoint.addr (unwrap_or endpoint.port 0)

-- master or backup
abbrev pub role_of : List ℕ → Option DaemonRole
role_of word = if bytes_eq word (codes "master") then Some Master else if bytes_eq word (codes "backup") then Some Backup else None

-- what was read, with an option next
abbrev pub and_option : WordsRead → WordsRead
and_option r = record r { awaited = AnOption }

-- what was read, with the service that a value gives
abbrev pub with_service : ℕ → ServiceKey → WordsRead → WordsRead
with_service at key r = record r { service = Some (record { at = at; key = key }); awaited = AnOption }

-- the value of an option: what it must be, and what is refused else
abbrev pub take_value : ℕ → List ℕ → OptionName → WordsRead → Result WordsRead BadWord
take_value at word TcpService r = do
  endpoint ← needed at cause.BadAddress (endpoint_of word)
  Ok (with_service at (service_key_of Tcp endpoint) r)
take_value at word UdpService r = do
  endpoint ← needed at cause.BadAddress (endpoint_of word)
  Ok (with_service at (service_key_of Udp endpoint) r)
take_value at word FwmarkService r = do
  mark ← needed at cause.BadNumber (number_between 1 4294967295 word)
  Ok (with_service at (Mark mark) r)
take_value at word Scheduling r = do
  scheduler ← needed at cause.BadScheduler (scheduler_named word)
  Ok (record r { scheduler = Some scheduler; awaited = AnOption })
take_value at word Persistent r = do
  seconds ← needed at cause.BadNumber (number_between 1 2678400 word)
  Ok (record r { persist = Some seconds; awaited = AnOption })
take_value at word Netmask r = do
  bits ← needed at cause.BadAddress (mask_of word)
  Ok (record r { mask_bits = Some bits; awaited = AnOption })
take_value at word RealServer r = do
  endpoint ← needed at cause.BadAddress (endpoint_of word)
  Ok (record r { server = Some endpoint; awaited = AnOption })
take_value at word Weight r = do
  weight ← needed at cause.BadNumber (number_between 0 2147483647 word)
  Ok (record r { weight = Some weight; awaited = AnOption })
take_value at word UpperThreshold r = do
  upper ← needed at cause.BadNumber (number_between 0 4294967295 word)
  Ok (record r { upper = Some upper; awaited = AnOption })
take_value at word LowerThreshold r = do
  lower ← needed at cause.BadNumber (number_between 0 4294967295 word)
  Ok (record r { lower = Some lower; awaited = AnOption })
take_value at word SyncId r = do
  id ← needed at cause.BadNumber (number_between 0 255 word)
  Ok (record r { sync_id = Some id; awaited = AnOption })
take_value at word McastInterface r = Ok (record r { interface = true; awaited = AnOption })
take_value at word option r = Ok (record r { awaited = AnOption })

-- the word after `-p`: its value where the word is all digits, and else an option
abbrev pub take_timeout : ℕ → List ℕ → WordsRead → Result WordsRead BadWord
take_timeout at word r = if is_number word then take_value at word Persistent r else take_option at word (record r { awaited = AnOption })

-- THE WORDS FROM LEFT TO RIGHT

-- one word, by what is awaited
abbrev pub take_awaited : ℕ → List ℕ → Awaited → WordsRead → Result WordsRead BadWord
take_awaited at word AnOption r = take_option at word r
take_awaited at word (ValueOf Persistent) r = take_timeout at word r
take_awaited at word (ValueOf option) r = take_value at word option r
take_awaited at word EstablishedTimeout r = do
  seconds ← needed at cause.BadNumber (number_between 0 2678400 word)
  Ok (record r { established = seconds; awaited = FinWaitTimeout })
take_awaited at word FinWaitTimeout r = do
  seconds ← needed at cause.BadNumber (number_between 0 2678400 word)
  Ok (record r { fin_wait = seconds; awaited = UdpTimeout })
take_awaited at word UdpTimeout r = do
  seconds ← needed at cause.BadNumber (number_between 0 2678400 word)
  Ok (record r { udp = seconds; awaited = AnOption })
take_awaited at word Role r = do
  role ← needed at cause.UnknownOption (role_of word)
  Ok (record r { role = Some role; awaited = AnOption })

abbrev pub take_word : ℕ → List ℕ → WordsRead → Result WordsRead BadWord
take_word at word r = take_awaited at word r.awaited r

-- the words from a number on: the first that is refused counts
abbrev pub take_words : ℕ → List (List ℕ) → WordsRead → Result WordsRead BadWord
take_words at [] r = Ok r
take_words at (word ∷ words) r = do
  next ← take_word at word r
  take_words (at + 1) words next

-- what comes at once after a command
abbrev pub awaited_after : CommandName → Awaited
awaited_after SetTimeouts = EstablishedTimeout
awaited_after StartDaemon = Role
awaited_after StopDaemon = Role
awaited_after _ = AnOption

-- a command, and nothing given yet
abbrev pub begun : CommandName → WordsRead
begun command = record {
  command = command;
  awaited = awaited_after command;
  service = None;
  scheduler = None;
  persist = None;
  netmask_at = None;
  mask_bits = None;
  one_packet_at = None;
  server = None;
  method = None;
  weight = None;
  upper = None;
  lower = None;
  numeric = false;
  connection = false;
  sync_id = None;
  interface = false;
  role = None;
  established = 0;
  fin_wait = 0;
  udp = 0;
}

-- the first word is the command
abbrev pub take_all : List (List ℕ) → Result WordsRead BadWord
take_all [] = refused 0 cause.Missing
take_all (word ∷ words) = do
  command ← needed 0 cause.UnknownOption (command_of word)
  take_words 1 words (begun command)
