-- Scripts: what the lines of a text mean, or the first refused line (this project's profile).
use Rattle.std.specs.Prelude.{ℕ, ◌+◌, ◌==◌, Bool, true, false, not, ◌||◌, List, [], ◌∷◌, ◌++◌, length, Option, Some, None, Result, Ok, Err, if◌then◌else◌, is_some, unwrap_or, nat_lt, nat_le, find, codes, bytes_eq}
use Rattle.hex.specs.Hex.{decode_of}
use Rattle.hex.specs.declared.error.FromHexError.{FromHexError}
use Rattle.lvs_types.specs.Limits.{max_rounds, max_items}
use Rattle.lvs_types.specs.declared.addr.Addr.{Addr}
use Rattle.lvs_types.specs.declared.script.Script.{Script}
use Rattle.lvs_types.specs.declared.script.Round.{Round}
use Rattle.lvs_types.specs.declared.script.ScriptLine.{ScriptLine}
use Rattle.lvs_types.specs.declared.script.ScriptLine.TheVariants as line
use Rattle.lvs_types.specs.declared.script.ScriptCause.{ScriptCause}
use Rattle.lvs_types.specs.declared.script.ScriptCause.TheVariants as cause
use Rattle.lvs_types.specs.declared.script.SettingCause.{SettingCause}
use Rattle.lvs_types.specs.declared.settings.Setting.{Setting}
use Rattle.lvs_types.specs.declared.command.Line.{Line}
use Rattle.lvs_types.specs.declared.command.Line.TheVariants.{Edit, Show}
use Rattle.lvs_types.specs.declared.book.Shown.{Shown}
use Rattle.lvs_types.specs.declared.book.Shown.TheVariants as shown
use Rattle.lvs_types.specs.declared.icmp.Side.{Side}
use Rattle.lvs_types.specs.declared.icmp.Side.TheVariants.{Inward, Outward}
use Rattle.lvs_model.specs.declared.admin.BadWord.{BadWord}
use Rattle.lvs_model.specs.declared.script.LineName.{LineName}
use Rattle.lvs_model.specs.declared.script.LineName.TheVariants as name
use Rattle.lvs_model.specs.declared.script.BadLine.{BadLine}
use Rattle.lvs_model.specs.Decimals.{number_of, addr_of}
use Rattle.lvs_model.specs.Refusals.{◌>>=◌}
use Rattle.lvs_model.specs.Lines.{lines_of, words_of, is_readable, is_skipped}
use Rattle.lvs_model.specs.AdminLines.{line_of_words}
use Rattle.lvs_model.specs.SysctlWords.{setting_of_words}
use Rattle.lvs_model.specs.Plans.{items_of_line}

-- THE KINDS OF LINES

-- the first word of each kind of line
abbrev pub line_name : LineName → List ℕ
line_name name.Local = codes "local"
line_name name.At = codes "at"
line_name name.Ipvs = codes "ipvs"
line_name name.Sysctl = codes "sysctl"
line_name name.Incoming = codes "in"
line_name name.Outgoing = codes "out"
line_name name.Sync = codes "sync"
line_name name.List = codes "list"
line_name name.Conns = codes "conns"
line_name name.Save = codes "save"
line_name name.Icmp = codes "icmp"

abbrev pub line_names : List LineName
line_names = name.Local ∷ name.At ∷ name.Ipvs ∷ name.Sysctl ∷ name.Incoming ∷ name.Outgoing ∷ name.Sync ∷ name.List ∷ name.Conns ∷ name.Save ∷ name.Icmp ∷ []

-- the kind of line that a first word names
abbrev pub line_named : List ℕ → Option LineName
line_named word = find (λ kind. bytes_eq word (line_name kind)) line_names

-- WHAT WAS READ SO FAR

pub record ScriptRead : Type 0 where
  -- the source of tunnels, where a line gave it
  pub local : Option Addr
  -- the rounds before the one that is open
  pub closed : List Round
  -- the moment of the round that is open
  pub moment : Option ℕ
  -- the lines of the round that is open
  pub lines : List ScriptLine
  -- how many items all lines so far have
  pub items : ℕ

-- nothing was read
abbrev pub empty_script : ScriptRead
empty_script = record { local = None; closed = []; moment = None; lines = []; items = 0 }

-- the round that is open, where there is one
abbrev pub open_round : Option ℕ → List ScriptLine → List Round
open_round None lines = []
open_round (Some moment) lines = record { moment = moment; lines = lines } ∷ []

-- all rounds so far
abbrev pub rounds_read : ScriptRead → List Round
rounds_read s = s.closed ++ open_round s.moment s.lines

-- A LINE

-- what is read, or the cause of a refusal
abbrev pub refuse_if : Bool → ScriptCause → Result (Unit {0}) ScriptCause
refuse_if true why = Err why
refuse_if false why = Ok tt

-- the value, or the cause where there is none
abbrev pub or_cause : {A : Type 0} → ScriptCause → Option A → Result A ScriptCause
or_cause why None = Err why
or_cause why (Some x) = Ok x

-- where a kind of line may stand: `local` once, before the first `at`; every other one but `at` after an `at`
abbrev pub checked_place : LineName → ScriptRead → Result (Unit {0}) ScriptCause
checked_place name.Local s = refuse_if (is_some s.local || is_some s.moment) cause.LocalPlace
checked_place name.At s = Ok tt
checked_place _ s = refuse_if (not (is_some s.moment)) cause.BeforeAt

-- an even number of hexadecimal digits of either case, at least two
abbrev pub bytes_decoded : Result (List ℕ) FromHexError → Result (List ℕ) ScriptCause
bytes_decoded (Ok bytes) = Ok bytes
bytes_decoded (Err why) = Err cause.BadHex

abbrev pub bytes_of : List ℕ → Result (List ℕ) ScriptCause
bytes_of word = if length word == 0 then Err cause.BadHex else bytes_decoded (decode_of word)

-- the words after `ipvs`
abbrev pub line_of_admin : Result Line BadWord → Result ScriptLine ScriptCause
line_of_admin (Ok (Edit command)) = Ok (line.Edit command)
line_of_admin (Ok (Show kind)) = Ok (line.Show kind)
line_of_admin (Err bad) = Err (cause.BadWords bad.at bad.cause)

-- the words after `sysctl`
abbrev pub line_of_setting : Result Setting SettingCause → Result ScriptLine ScriptCause
line_of_setting (Ok setting) = Ok (line.Set setting)
line_of_setting (Err why) = Err cause.BadSetting

-- the words behind the first, of which there must be none, one or two
abbrev pub no_words : List (List ℕ) → Result (Unit {0}) ScriptCause
no_words [] = Ok tt
no_words (word ∷ words) = Err cause.WordCount

abbrev pub one_word : List (List ℕ) → Result (List ℕ) ScriptCause
one_word (word ∷ []) = Ok word
one_word _ = Err cause.WordCount

abbrev pub two_words : List (List ℕ) → Result (List ℕ × List ℕ) ScriptCause
two_words (first ∷ second ∷ []) = Ok (first, second)
two_words _ = Err cause.WordCount

-- SECONDS and MARK: 1 to 10 digits, below 2 ^ 32
abbrev pub number_given : List ℕ → Result ℕ ScriptCause
number_given word = or_cause cause.BadNumber (number_of 10 4294967295 word)

-- a listing
abbrev pub listing_line : Shown → List (List ℕ) → Result ScriptLine ScriptCause
listing_line kind words = do
  _ ← no_words words
  Ok (line.Show kind)

-- the side that an ICMP error comes from
abbrev pub side_of_word : List ℕ → Option Side
side_of_word word = if bytes_eq word (codes "in") then Some Inward else if bytes_eq word (codes "out") then Some Outward else None

-- the answer to an ICMP error, which stands among the listings
abbrev pub icmp_shown : Side → List ℕ → Shown
icmp_shown Inward bytes = shown.IcmpIn bytes
icmp_shown Outward bytes = shown.IcmpOut bytes

-- `in HEX` or `out HEX`; another word than `in` and `out` counts as a wrong number of words
abbrev pub icmp_line : List (List ℕ) → Result ScriptLine ScriptCause
icmp_line words = do
  both ← two_words words
  side ← or_cause cause.WordCount (side_of_word both.0)
  bytes ← bytes_of both.1
  Ok (line.Show (icmp_shown side bytes))

-- the line of a round, from the words behind its first; `local` and `at` make none
abbrev pub round_line : LineName → List (List ℕ) → Result ScriptLine ScriptCause
round_line name.Ipvs words = line_of_admin (line_of_words words)
round_line name.Sysctl words = line_of_setting (setting_of_words words)
round_line name.Incoming words = do
  both ← two_words words
  mark ← number_given both.0
  bytes ← bytes_of both.1
  Ok (line.Incoming mark bytes)
round_line name.Outgoing words = do
  hex ← one_word words
  bytes ← bytes_of hex
  Ok (line.Outgoing bytes)
round_line name.Sync words = do
  hex ← one_word words
  bytes ← bytes_of hex
  Ok (line.Sync bytes)
round_line name.List words = listing_line shown.List words
round_line name.Conns words = listing_line shown.Conns words
round_line name.Save words = listing_line shown.Save words
round_line name.Icmp words = icmp_line words
round_line name.Local words = Err cause.UnknownLine
round_line name.At words = Err cause.UnknownLine

-- a line more in the round that is open; it may not bring the items above their limit
abbrev pub with_line : ScriptLine → ScriptRead → Result ScriptRead ScriptCause
with_line l s =
    if nat_le (s.items + length (items_of_line l)) max_items then Ok (record s { lines = s.lines ++ l ∷ []; items = s.items + length (items_of_line l) })
    else Err cause.TooManyItems

-- the source of tunnels
abbrev pub take_local : List (List ℕ) → ScriptRead → Result ScriptRead ScriptCause
take_local words s = do
  word ← one_word words
  addr ← or_cause cause.BadAddress (addr_of word)
  Ok (record s { local = Some addr })

-- a round of a moment that is less than the one before, or too many rounds
abbrev pub checked_round : ℕ → ScriptRead → Result (Unit {0}) ScriptCause
checked_round moment s =
    if nat_lt moment (unwrap_or s.moment 0) then Err cause.TimeBack
    else refuse_if (nat_le max_rounds (length (rounds_read s))) cause.TooManyRounds

-- a round begins
abbrev pub take_at : List (List ℕ) → ScriptRead → Result ScriptRead ScriptCause
take_at words s = do
  word ← one_word words
  moment ← number_given word
  _ ← checked_round moment s
  Ok (record s { closed = rounds_read s; moment = Some moment; lines = [] })

abbrev pub take_round_line : LineName → List (List ℕ) → ScriptRead → Result ScriptRead ScriptCause
take_round_line kind words s = do
  read ← round_line kind words
  with_line read s

abbrev pub take_kind : LineName → List (List ℕ) → ScriptRead → Result ScriptRead ScriptCause
take_kind name.Local words s = take_local words s
take_kind name.At words s = take_at words s
take_kind kind words s = take_round_line kind words s

-- a line that isn't skipped, by its words
abbrev pub take_line_words : List (List ℕ) → ScriptRead → Result ScriptRead ScriptCause
take_line_words [] s = Ok s
take_line_words (first ∷ words) s = do
  kind ← or_cause cause.UnknownLine (line_named first)
  _ ← checked_place kind s
  take_kind kind words s

-- one line; the checks come in this order: its bytes, its first word, its place, the number of its words, its words, and what it adds
abbrev pub take_line : List ℕ → ScriptRead → Result ScriptRead ScriptCause
take_line text s =
    if is_skipped (words_of text) then Ok s
    else if is_readable text then take_line_words (words_of text) s
    else Err cause.UnknownLine

-- A SCRIPT

-- a refusal at the line of that number
abbrev pub at_line : {A : Type 0} → ℕ → Result A ScriptCause → Result A BadLine
at_line number (Ok read) = Ok read
at_line number (Err why) = Err (record { line = number; cause = why })

-- the lines from a number on: the first that is refused counts
abbrev pub take_lines : ℕ → List (List ℕ) → ScriptRead → Result ScriptRead BadLine
take_lines number [] s = Ok s
take_lines number (text ∷ texts) s = do
  next ← at_line number (take_line text s)
  take_lines (number + 1) texts next

-- the source of tunnels is 0.0.0.0 where no line gives it
abbrev pub script_read : ScriptRead → Script
script_read s = record { local = unwrap_or s.local (record { number = 0 }); rounds = rounds_read s }

-- what a text means: the script, or the first refused line, numbered from 1
abbrev pub script_of : List ℕ → Result Script BadLine
script_of text = do
  s ← take_lines 1 (lines_of text) empty_script
  Ok (script_read s)
