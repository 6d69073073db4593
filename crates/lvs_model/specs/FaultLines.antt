-- The line that the program prints on standard error for a status (this project's profile).
use Rattle.std.specs.Prelude.{ℕ, List, [], ◌∷◌, ◌++◌, codes, decimal}
use Rattle.lvs_types.specs.declared.script.WordsCause.{WordsCause}
use Rattle.lvs_types.specs.declared.script.WordsCause.TheVariants as words
use Rattle.lvs_types.specs.declared.script.ScriptCause.{ScriptCause}
use Rattle.lvs_types.specs.declared.script.ScriptCause.TheVariants as script
use Rattle.lvs_types.specs.declared.capture.CaptureCause.{CaptureCause}
use Rattle.lvs_types.specs.declared.capture.CaptureCause.TheVariants as capture
use Rattle.lvs_types.specs.declared.status.Status.{Status}
use Rattle.lvs_types.specs.declared.status.Status.TheVariants as status

-- a cause is told by its name
abbrev pub words_cause_text : WordsCause → List ℕ
words_cause_text words.UnknownOption = codes "UnknownOption"
words_cause_text words.Missing = codes "Missing"
words_cause_text words.Repeated = codes "Repeated"
words_cause_text words.BadNumber = codes "BadNumber"
words_cause_text words.BadAddress = codes "BadAddress"
words_cause_text words.BadScheduler = codes "BadScheduler"
words_cause_text words.ZeroPort = codes "ZeroPort"
words_cause_text words.Conflict = codes "Conflict"
words_cause_text words.Extra = codes "Extra"

-- for ipvsadm words with the refused word's number, from 0
abbrev pub script_cause_text : ScriptCause → List ℕ
script_cause_text script.UnknownLine = codes "UnknownLine"
script_cause_text script.WordCount = codes "WordCount"
script_cause_text script.LocalPlace = codes "LocalPlace"
script_cause_text script.BeforeAt = codes "BeforeAt"
script_cause_text script.BadAddress = codes "BadAddress"
script_cause_text script.BadNumber = codes "BadNumber"
script_cause_text script.TimeBack = codes "TimeBack"
script_cause_text script.TooManyRounds = codes "TooManyRounds"
script_cause_text script.BadHex = codes "BadHex"
script_cause_text (script.BadWords at cause) = codes "BadWords " ++ decimal at ++ 32 ∷ [] ++ words_cause_text cause
script_cause_text script.BadSetting = codes "BadSetting"
script_cause_text script.TooManyItems = codes "TooManyItems"

abbrev pub capture_cause_text : CaptureCause → List ℕ
capture_cause_text capture.Short = codes "Short"
capture_cause_text capture.Magic = codes "Magic"
capture_cause_text capture.Version = codes "Version"
capture_cause_text capture.Link = codes "Link"
capture_cause_text capture.RecordShort = codes "RecordShort"
capture_cause_text capture.TooManyRounds = codes "TooManyRounds"
capture_cause_text capture.TooManyItems = codes "TooManyItems"

-- without a line end; nothing where all went well
abbrev pub fault_text : Status → List ℕ
fault_text status.Finished = []
fault_text (status.ScriptRefused line cause) = codes "ipvsd: script refused, line " ++ decimal line ++ codes ": " ++ script_cause_text cause
fault_text (status.WordsRefused at) = codes "ipvsd: words refused, word " ++ decimal at
fault_text status.ReadFault = codes "ipvsd: read fault"
fault_text status.WriteFault = codes "ipvsd: write fault"
fault_text status.NoMemory = codes "ipvsd: no memory"
fault_text status.ScriptTooLong = codes "ipvsd: script too long"
fault_text (status.Illegal verdict) = codes "ipvsd: illegal report"
fault_text (status.CaptureRefused at cause) = codes "ipvsd: capture refused, record " ++ decimal at ++ codes ": " ++ capture_cause_text cause
