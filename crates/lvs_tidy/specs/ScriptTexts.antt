-- The text of a script: one spelling for each line, one blank between words, and a remark before each round (this project's profile).
use Rattle.std.specs.Prelude.{ℕ, ◌+◌, ◌==◌, List, [], ◌∷◌, ◌++◌, map, if◌then◌else◌, codes, decimal}
use Rattle.hex.specs.Hex.{encode_lower}
use Rattle.lvs_types.specs.declared.addr.Addr.{Addr}
use Rattle.lvs_types.specs.declared.book.Shown.{Shown}
use Rattle.lvs_types.specs.declared.book.Shown.TheVariants as shown
use Rattle.lvs_types.specs.declared.script.Script.{Script}
use Rattle.lvs_types.specs.declared.script.Round.{Round}
use Rattle.lvs_types.specs.declared.script.ScriptLine.{ScriptLine}
use Rattle.lvs_types.specs.declared.script.ScriptLine.TheVariants as line
use Rattle.lvs_model.specs.declared.script.LineName.{LineName}
use Rattle.lvs_model.specs.declared.script.LineName.TheVariants as name
use Rattle.lvs_model.specs.Report.{addr_text}
use Rattle.lvs_model.specs.Scripts.{line_name}
use Rattle.lvs_tidy.specs.CommandWords.{command_words, setting_words}

-- A LINE

abbrev pub shown_kind : Shown → LineName
shown_kind shown.List = name.List
shown_kind shown.Conns = name.Conns
shown_kind shown.Save = name.Save
shown_kind (shown.IcmpIn bytes) = name.Icmp
shown_kind (shown.IcmpOut bytes) = name.Icmp

abbrev pub shown_words : Shown → List (List ℕ)
shown_words shown.List = []
shown_words shown.Conns = []
shown_words shown.Save = []
shown_words (shown.IcmpIn bytes) = codes "in" ∷ encode_lower bytes ∷ []
shown_words (shown.IcmpOut bytes) = codes "out" ∷ encode_lower bytes ∷ []

-- the kind of line, which its first word names
abbrev pub line_kind : ScriptLine → LineName
line_kind (line.Incoming mark bytes) = name.Incoming
line_kind (line.Outgoing bytes) = name.Outgoing
line_kind (line.Edit command) = name.Ipvs
line_kind (line.Set setting) = name.Sysctl
line_kind (line.Sync bytes) = name.Sync
line_kind (line.Show kind) = shown_kind kind

-- the words behind the first
abbrev pub line_words : ScriptLine → List (List ℕ)
line_words (line.Incoming mark bytes) = decimal mark ∷ encode_lower bytes ∷ []
line_words (line.Outgoing bytes) = encode_lower bytes ∷ []
line_words (line.Edit command) = command_words command
line_words (line.Set setting) = setting_words setting
line_words (line.Sync bytes) = encode_lower bytes ∷ []
line_words (line.Show kind) = shown_words kind

-- words, each with a blank before it
abbrev pub spaced : List (List ℕ) → List ℕ
spaced [] = []
spaced (word ∷ words) = 32 ∷ word ++ spaced words

abbrev pub line_text : ScriptLine → List ℕ
line_text l = line_name (line_kind l) ++ spaced (line_words l)

-- ROUNDS

-- the remark before a round: its number, from 0, and its moment
abbrev pub remark_text : ℕ → ℕ → List ℕ
remark_text number moment = codes "#" ++ spaced (codes "round" ∷ decimal number ∷ codes "at" ∷ decimal moment ∷ [])

abbrev pub at_text : ℕ → List ℕ
at_text moment = line_name name.At ++ spaced (decimal moment ∷ [])

abbrev pub round_lines : ℕ → Round → List (List ℕ)
round_lines number round = remark_text number round.moment ∷ at_text round.moment ∷ map line_text round.lines

-- the rounds from a number on
abbrev pub rounds_lines : ℕ → List Round → List (List ℕ)
rounds_lines number [] = []
rounds_lines number (round ∷ rounds) = round_lines number round ++ rounds_lines (number + 1) rounds

-- A SCRIPT

-- the source of tunnels, where it isn't 0.0.0.0
abbrev pub local_lines : Addr → List (List ℕ)
local_lines addr = if addr.number == 0 then [] else (line_name name.Local ++ spaced (addr_text addr ∷ [])) ∷ []

abbrev pub script_lines : Script → List (List ℕ)
script_lines script = local_lines script.local ++ rounds_lines 0 script.rounds

-- lines, each with its line feed
abbrev pub with_feeds : List (List ℕ) → List ℕ
with_feeds [] = []
with_feeds (text ∷ texts) = text ++ 10 ∷ with_feeds texts

abbrev pub script_text : Script → List ℕ
script_text script = with_feeds (script_lines script)
