-- The words of a sysctl: its name and its values (the Linux ipvs-sysctl document; the ranges are this project's profile).
use Rattle.std.specs.Prelude.{ℕ, ◌||◌, ◌==◌, List, [], ◌∷◌, length, take, drop, Option, Result, Ok, Err, if◌then◌else◌, ok_or, find, codes, bytes_eq, nat_lt}
use Rattle.lvs_types.specs.declared.settings.Setting.{Setting}
use Rattle.lvs_types.specs.declared.settings.Setting.TheVariants.{ExpireNodest, ExpireQuiescent, SloppyTcp, ReuseMode, SyncThreshold, SyncVersion}
use Rattle.lvs_types.specs.declared.script.SettingCause.{SettingCause}
use Rattle.lvs_types.specs.declared.script.SettingCause.TheVariants.{UnknownName, BadValue}
use Rattle.lvs_model.specs.declared.admin.SysctlName.{SysctlName}
use Rattle.lvs_model.specs.declared.admin.SysctlName.TheVariants as sysctl
use Rattle.lvs_model.specs.Decimals.{number_between}
use Rattle.lvs_model.specs.Refusals.{◌>>=◌}

-- the names of the sysctls
abbrev pub sysctl_name : SysctlName → List ℕ
sysctl_name sysctl.ExpireNodest = codes "expire_nodest_conn"
sysctl_name sysctl.ExpireQuiescent = codes "expire_quiescent_template"
sysctl_name sysctl.SloppyTcp = codes "sloppy_tcp"
sysctl_name sysctl.ReuseMode = codes "conn_reuse_mode"
sysctl_name sysctl.SyncThreshold = codes "sync_threshold"
sysctl_name sysctl.SyncVersion = codes "sync_version"

-- all sysctls
abbrev pub sysctls : List SysctlName
sysctls = sysctl.ExpireNodest ∷ sysctl.ExpireQuiescent ∷ sysctl.SloppyTcp ∷ sysctl.ReuseMode ∷ sysctl.SyncThreshold ∷ sysctl.SyncVersion ∷ []

abbrev pub sysctl_prefix : List ℕ
sysctl_prefix = codes "net.ipv4.vs."

-- a name without the prefix, which may be left out
abbrev pub without_prefix : List ℕ → List ℕ
without_prefix word = if bytes_eq (take (length sysctl_prefix) word) sysctl_prefix then drop (length sysctl_prefix) word else word

-- the sysctl that a name without the prefix names
abbrev pub sysctl_named : List ℕ → Option SysctlName
sysctl_named name = find (λ known. bytes_eq name (sysctl_name known)) sysctls

-- the sysctl that a word names
abbrev pub sysctl_of : List ℕ → Option SysctlName
sysctl_of word = sysctl_named (without_prefix word)

-- a sysctl of one value
abbrev pub one_value : SysctlName → List ℕ → Result Setting SettingCause
one_value sysctl.ExpireNodest word = do
  value ← ok_or (number_between 0 2147483647 word) BadValue
  Ok (ExpireNodest value)
one_value sysctl.ExpireQuiescent word = do
  value ← ok_or (number_between 0 2147483647 word) BadValue
  Ok (ExpireQuiescent value)
one_value sysctl.SloppyTcp word = do
  value ← ok_or (number_between 0 2147483647 word) BadValue
  Ok (SloppyTcp value)
one_value sysctl.ReuseMode word = do
  value ← ok_or (number_between 0 1 word) BadValue
  Ok (ReuseMode value)
one_value sysctl.SyncVersion word = do
  value ← ok_or (number_between 0 1 word) BadValue
  Ok (SyncVersion value)
one_value sysctl.SyncThreshold word = Err BadValue

-- a threshold, and a period that is 0 or above it
abbrev pub threshold_of : ℕ → ℕ → Result Setting SettingCause
threshold_of threshold period = if (period == 0) || nat_lt threshold period then Ok (SyncThreshold threshold period) else Err BadValue

-- a sysctl of two values
abbrev pub two_values : SysctlName → List ℕ → List ℕ → Result Setting SettingCause
two_values sysctl.SyncThreshold first second = do
  threshold ← ok_or (number_between 0 2147483647 first) BadValue
  period ← ok_or (number_between 0 2147483647 second) BadValue
  threshold_of threshold period
two_values _ first second = Err BadValue

-- a sysctl with its values
abbrev pub setting_read : SysctlName → List (List ℕ) → Result Setting SettingCause
setting_read known (value ∷ []) = one_value known value
setting_read known (first ∷ second ∷ []) = two_values known first second
setting_read known _ = Err BadValue

-- what the words of a sysctl mean: the setting, or why they are none
abbrev pub setting_of_words : List (List ℕ) → Result Setting SettingCause
setting_of_words [] = Err UnknownName
setting_of_words (name ∷ values) = do
  known ← ok_or (sysctl_of name) UnknownName
  setting_read known values
