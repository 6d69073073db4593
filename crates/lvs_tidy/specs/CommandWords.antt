-- The words of ipvsadm(8) commands and of sysctls, as `save` spells them: one spelling for each command (this project's profile).
use Rattle.std.specs.Prelude.{ℕ, ◌==◌, Bool, true, false, List, [], ◌∷◌, ◌++◌, Option, Some, None, if◌then◌else◌, codes, decimal}
use Rattle.lvs_types.specs.declared.service.ServiceKey.{ServiceKey}
use Rattle.lvs_types.specs.declared.service.ServiceKey.TheVariants.{Net, Mark}
use Rattle.lvs_types.specs.declared.service.Proto.TheVariants.{Tcp, Udp}
use Rattle.lvs_types.specs.declared.service.Service.{Service}
use Rattle.lvs_types.specs.declared.dest.DestSpec.{DestSpec}
use Rattle.lvs_types.specs.declared.command.Command.{Command}
use Rattle.lvs_types.specs.declared.command.Command.TheVariants as command
use Rattle.lvs_types.specs.declared.settings.Setting.{Setting}
use Rattle.lvs_types.specs.declared.settings.Setting.TheVariants.{ExpireNodest, ExpireQuiescent, SloppyTcp, ReuseMode, SyncThreshold, SyncVersion}
use Rattle.lvs_types.specs.Schedulers.{scheduler_name}
use Rattle.lvs_model.specs.declared.admin.SysctlName.TheVariants as sysctl
use Rattle.lvs_model.specs.SysctlWords.{sysctl_name}
use Rattle.lvs_model.specs.Report.{addr_text}
use Rattle.lvs_model.specs.Listings.{endpoint_text, mask_addr, method_word}

-- SERVICES

-- -t ADDR:PORT, -u ADDR:PORT or -f MARK
abbrev pub key_option : ServiceKey → List ℕ
key_option (Net Tcp addr port) = codes "-t"
key_option (Net Udp addr port) = codes "-u"
key_option (Mark mark) = codes "-f"

abbrev pub key_value : ServiceKey → List ℕ
key_value (Net proto addr port) = endpoint_text addr port
key_value (Mark mark) = decimal mark

-- the seconds of persistence, where there is one
abbrev pub persist_words : Option ℕ → List (List ℕ)
persist_words None = []
persist_words (Some seconds) = codes "-p" ∷ decimal seconds ∷ []

-- the mask, where it isn't 255.255.255.255
abbrev pub mask_words : ℕ → List (List ℕ)
mask_words bits = if bits == 32 then [] else codes "-M" ∷ addr_text (mask_addr bits) ∷ []

-- one-packet scheduling, where it is on
abbrev pub one_packet_words : Bool → List (List ℕ)
one_packet_words true = codes "-o" ∷ []
one_packet_words false = []

-- the words behind -A and -E
abbrev pub service_words : Service → List (List ℕ)
service_words s =
    key_option s.key ∷ key_value s.key ∷ codes "-s" ∷ scheduler_name s.scheduler ∷ (persist_words s.persist ++ (mask_words s.mask_bits ++ one_packet_words s.one_packet))

-- SERVERS

-- an option and a threshold, where it isn't 0
abbrev pub threshold_words : List ℕ → ℕ → List (List ℕ)
threshold_words option threshold = if threshold == 0 then [] else option ∷ decimal threshold ∷ []

-- the words behind -a and -e
abbrev pub server_words : ServiceKey → DestSpec → List (List ℕ)
server_words key d =
    key_option key ∷ key_value key ∷ codes "-r" ∷ endpoint_text d.addr d.port ∷ method_word d.method ∷ codes "-w" ∷ decimal d.weight ∷ (threshold_words (codes "-x") d.upper ++ threshold_words (codes "-y") d.lower)

-- COMMANDS

abbrev pub command_words : Command → List (List ℕ)
command_words (command.AddService s) = codes "-A" ∷ service_words s
command_words (command.EditService s) = codes "-E" ∷ service_words s
command_words (command.RemoveService key) = codes "-D" ∷ key_option key ∷ key_value key ∷ []
command_words command.Clear = codes "-C" ∷ []
command_words (command.AddServer key d) = codes "-a" ∷ server_words key d
command_words (command.EditServer key d) = codes "-e" ∷ server_words key d
command_words (command.RemoveServer key addr port) = codes "-d" ∷ key_option key ∷ key_value key ∷ codes "-r" ∷ endpoint_text addr port ∷ []
command_words (command.Timeouts established fin_wait udp) = codes "--set" ∷ decimal established ∷ decimal fin_wait ∷ decimal udp ∷ []
command_words (command.StartMaster id) = codes "--start-daemon" ∷ codes "master" ∷ codes "--syncid" ∷ decimal id ∷ []
command_words (command.StartBackup id) = codes "--start-daemon" ∷ codes "backup" ∷ codes "--syncid" ∷ decimal id ∷ []
command_words command.StopMaster = codes "--stop-daemon" ∷ codes "master" ∷ []
command_words command.StopBackup = codes "--stop-daemon" ∷ codes "backup" ∷ []

-- SYSCTLS

abbrev pub setting_words : Setting → List (List ℕ)
setting_words (ExpireNodest value) = sysctl_name sysctl.ExpireNodest ∷ decimal value ∷ []
setting_words (ExpireQuiescent value) = sysctl_name sysctl.ExpireQuiescent ∷ decimal value ∷ []
setting_words (SloppyTcp value) = sysctl_name sysctl.SloppyTcp ∷ decimal value ∷ []
setting_words (ReuseMode value) = sysctl_name sysctl.ReuseMode ∷ decimal value ∷ []
setting_words (SyncThreshold threshold period) = sysctl_name sysctl.SyncThreshold ∷ decimal threshold ∷ decimal period ∷ []
setting_words (SyncVersion value) = sysctl_name sysctl.SyncVersion ∷ decimal value ∷ []
