-- The commands and options of ipvsadm(8), as tables (this project's profile).
use Rattle.std.specs.Prelude.{ℕ, Bool, ◌||◌, ◌==◌, List, [], ◌∷◌, Option, find, codes, bytes_eq}
use Rattle.std.specs.List.{list_any}
use Rattle.lvs_model.specs.declared.admin.CommandName.{CommandName}
use Rattle.lvs_model.specs.declared.admin.CommandName.TheVariants.{AddService, EditService, DeleteService, ClearTables, AddServer, EditServer, DeleteServer, ListTables, SaveTables, SetTimeouts, StartDaemon, StopDaemon}
use Rattle.lvs_model.specs.declared.admin.OptionName.{OptionName}
use Rattle.lvs_model.specs.declared.admin.OptionName.TheVariants.{TcpService, UdpService, FwmarkService, Scheduling, Persistent, Netmask, OnePacket, RealServer, Gatewaying, Ipip, Masquerading, Weight, UpperThreshold, LowerThreshold, Numeric, Connection, SyncId, McastInterface}

-- a word is one of two names
abbrev pub is_either : List ℕ → List ℕ → List ℕ → Bool
is_either short long word = bytes_eq word short || bytes_eq word long

-- the names of the commands
abbrev pub names_command : List ℕ → CommandName → Bool
names_command word AddService = is_either (codes "-A") (codes "--add-service") word
names_command word EditService = is_either (codes "-E") (codes "--edit-service") word
names_command word DeleteService = is_either (codes "-D") (codes "--delete-service") word
names_command word ClearTables = is_either (codes "-C") (codes "--clear") word
names_command word AddServer = is_either (codes "-a") (codes "--add-server") word
names_command word EditServer = is_either (codes "-e") (codes "--edit-server") word
names_command word DeleteServer = is_either (codes "-d") (codes "--delete-server") word
names_command word ListTables = is_either (codes "-L") (codes "--list") word || bytes_eq word (codes "-l")
names_command word SaveTables = is_either (codes "-S") (codes "--save") word
names_command word SetTimeouts = bytes_eq word (codes "--set")
names_command word StartDaemon = bytes_eq word (codes "--start-daemon")
names_command word StopDaemon = bytes_eq word (codes "--stop-daemon")

-- all commands
abbrev pub commands : List CommandName
commands = AddService ∷ EditService ∷ DeleteService ∷ ClearTables ∷ AddServer ∷ EditServer ∷ DeleteServer ∷ ListTables ∷ SaveTables ∷ SetTimeouts ∷ StartDaemon ∷ StopDaemon ∷ []

-- the command that a word names
abbrev pub command_of : List ℕ → Option CommandName
command_of word = find (names_command word) commands

-- the names of the options
abbrev pub names_option : List ℕ → OptionName → Bool
names_option word TcpService = is_either (codes "-t") (codes "--tcp-service") word
names_option word UdpService = is_either (codes "-u") (codes "--udp-service") word
names_option word FwmarkService = is_either (codes "-f") (codes "--fwmark-service") word
names_option word Scheduling = is_either (codes "-s") (codes "--scheduler") word
names_option word Persistent = is_either (codes "-p") (codes "--persistent") word
names_option word Netmask = is_either (codes "-M") (codes "--netmask") word
names_option word OnePacket = is_either (codes "-o") (codes "--ops") word
names_option word RealServer = is_either (codes "-r") (codes "--real-server") word
names_option word Gatewaying = is_either (codes "-g") (codes "--gatewaying") word
names_option word Ipip = is_either (codes "-i") (codes "--ipip") word
names_option word Masquerading = is_either (codes "-m") (codes "--masquerading") word
names_option word Weight = is_either (codes "-w") (codes "--weight") word
names_option word UpperThreshold = is_either (codes "-x") (codes "--u-threshold") word
names_option word LowerThreshold = is_either (codes "-y") (codes "--l-threshold") word
names_option word Numeric = is_either (codes "-n") (codes "--numeric") word
names_option word Connection = is_either (codes "-c") (codes "--connection") word
names_option word SyncId = bytes_eq word (codes "--syncid")
names_option word McastInterface = bytes_eq word (codes "--mcast-interface")

-- all options
abbrev pub options : List OptionName
options = TcpService ∷ UdpService ∷ FwmarkService ∷ Scheduling ∷ Persistent ∷ Netmask ∷ OnePacket ∷ RealServer ∷ Gatewaying ∷ Ipip ∷ Masquerading ∷ Weight ∷ UpperThreshold ∷ LowerThreshold ∷ Numeric ∷ Connection ∷ SyncId ∷ McastInterface ∷ []

-- the option that a word names
abbrev pub option_of : List ℕ → Option OptionName
option_of word = find (names_option word) options

-- the options that may stand with a command
abbrev pub allowed : CommandName → List OptionName
allowed AddService = TcpService ∷ UdpService ∷ FwmarkService ∷ Scheduling ∷ Persistent ∷ Netmask ∷ OnePacket ∷ []
allowed EditService = TcpService ∷ UdpService ∷ FwmarkService ∷ Scheduling ∷ Persistent ∷ Netmask ∷ OnePacket ∷ []
allowed DeleteService = TcpService ∷ UdpService ∷ FwmarkService ∷ []
allowed ClearTables = []
allowed AddServer = TcpService ∷ UdpService ∷ FwmarkService ∷ RealServer ∷ Gatewaying ∷ Ipip ∷ Masquerading ∷ Weight ∷ UpperThreshold ∷ LowerThreshold ∷ []
allowed EditServer = TcpService ∷ UdpService ∷ FwmarkService ∷ RealServer ∷ Gatewaying ∷ Ipip ∷ Masquerading ∷ Weight ∷ UpperThreshold ∷ LowerThreshold ∷ []
allowed DeleteServer = TcpService ∷ UdpService ∷ FwmarkService ∷ RealServer ∷ []
allowed ListTables = Numeric ∷ Connection ∷ []
allowed SaveTables = Numeric ∷ []
allowed SetTimeouts = []
allowed StartDaemon = McastInterface ∷ SyncId ∷ []
allowed StopDaemon = McastInterface ∷ SyncId ∷ []

-- the place of an option in the list of all
abbrev pub option_number : OptionName → ℕ
option_number TcpService = 0
option_number UdpService = 1
option_number FwmarkService = 2
option_number Scheduling = 3
option_number Persistent = 4
option_number Netmask = 5
option_number OnePacket = 6
option_number RealServer = 7
option_number Gatewaying = 8
option_number Ipip = 9
option_number Masquerading = 10
option_number Weight = 11
option_number UpperThreshold = 12
option_number LowerThreshold = 13
option_number Numeric = 14
option_number Connection = 15
option_number SyncId = 16
option_number McastInterface = 17

-- whether an option may stand with a command
abbrev pub allows : CommandName → OptionName → Bool
allows command option = list_any (λ other. option_number other == option_number option) (allowed command)
