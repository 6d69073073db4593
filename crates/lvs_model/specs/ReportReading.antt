-- Reading a report: its heads, acts and listings, or the first line outside the grammar (this project's profile).
use Rattle.std.specs.Prelude.{ℕ, ◌+◌, Bool, true, false, not, ◌&&◌, ◌||◌, ◌==◌, List, [], ◌∷◌, ◌++◌, length, take, drop, Option, Some, None, Result, Ok, Err, if◌then◌else◌, nat_le, find, codes, bytes_eq, option_map}
use Rattle.std.specs.List.{slice_split, list_all}
use Rattle.std.specs.Char.{is_ascii_digit}
use Rattle.hex.specs.Hex.{decode_of}
use Rattle.hex.specs.declared.error.FromHexError.{FromHexError}
use Rattle.lvs_types.specs.declared.book.Shown.{Shown}
use Rattle.lvs_types.specs.declared.book.Shown.TheVariants as shown
use Rattle.lvs_types.specs.declared.book.ShownText.{ShownText}
use Rattle.lvs_types.specs.declared.report.ReportLine.{ReportLine}
use Rattle.lvs_types.specs.declared.report.ReportLine.TheVariants as line
use Rattle.lvs_model.specs.Decimals.{value_after, cut_at}
use Rattle.lvs_model.specs.Lines.{is_feed}
use Rattle.lvs_model.specs.Report.{shown_name}

infixl 10 ◌>>=◌
abbrev ◌>>=◌ : {A B : Type 0} → Option A → (A → Option B) → Option B
(Some x) >>= f = f x
None >>= f = None

-- NUMBERS AND WORDS

-- the greatest number of 64 bits
abbrev pub greatest_long : ℕ
greatest_long = 18446744073709551615

-- the greatest number of 32 bits
abbrev pub greatest_int : ℕ
greatest_int = 4294967295

-- at least one digit, and no zero (48) before another digit
abbrev pub is_plain : List ℕ → Bool
is_plain [] = false
is_plain (digit ∷ []) = true
is_plain (digit ∷ next ∷ digits) = not (digit == 48)

-- the number that decimal digits without leading zeros spell, up to a limit
abbrev pub plain_number : ℕ → List ℕ → Option ℕ
plain_number limit word =
    if list_all is_ascii_digit word && is_plain word && nat_le (value_after 0 word) limit then Some (value_after 0 word) else None

-- a number up to the next such byte, and what stands behind that byte
abbrev pub number_up_to : ℕ → ℕ → List ℕ → Option (ℕ × List ℕ)
number_up_to byte limit text = do
  parts ← cut_at byte text
  number ← plain_number limit parts.0
  Some (number, parts.1)

-- what stands behind the words that a text begins with
abbrev pub behind : List ℕ → List ℕ → Option (List ℕ)
behind words text = if bytes_eq (take (length words) text) words then Some (drop (length words) text) else None

-- a text of at least one byte
abbrev pub filled : List ℕ → Option (List ℕ)
filled [] = None
filled (byte ∷ bytes) = Some (byte ∷ bytes)

-- A LINE OUTSIDE LISTINGS

-- `round NUMBER at MOMENT workers W buckets B`; 32 is the blank
abbrev pub head_line_of : List ℕ → Option ReportLine
head_line_of text = do
  from_number ← behind (codes "round ") text
  number ← number_up_to 32 greatest_long from_number
  from_moment ← behind (codes "at ") number.1
  moment ← number_up_to 32 greatest_long from_moment
  from_workers ← behind (codes "workers ") moment.1
  workers ← number_up_to 32 greatest_int from_workers
  from_buckets ← behind (codes "buckets ") workers.1
  buckets ← plain_number greatest_int from_buckets
  Some (line.Head number.0 moment.0 workers.0 buckets)

-- `PLACE ACTOR.NUMBER REPLY`, with any reply of at least one byte; 46 is the dot
abbrev pub act_line_of : List ℕ → Option ReportLine
act_line_of text = do
  place ← number_up_to 32 greatest_long text
  actor ← number_up_to 46 greatest_int place.1
  number ← number_up_to 32 greatest_long actor.1
  reply ← filled number.1
  Some (line.Act place.0 actor.0 number.0 reply)

-- the second where the first is none
abbrev pub or_else : {A : Type 0} → Option A → Option A → Option A
or_else None other = other
or_else (Some x) other = Some x

-- the listings that are named by one word
abbrev pub listings : List Shown
listings = shown.List ∷ shown.Conns ∷ shown.Save ∷ []

abbrev pub table_named : List ℕ → Option Shown
table_named text = find (λ (kind : Shown). bytes_eq text (shown_name kind)) listings

-- 0 to 9, or a to f (97 to 102)
abbrev pub is_lower_digit : ℕ → Bool
is_lower_digit byte = is_ascii_digit byte || (nat_le 97 byte && nat_le byte 102)

abbrev pub bytes_decoded : Result (List ℕ) FromHexError → Option (List ℕ)
bytes_decoded (Ok bytes) = Some bytes
bytes_decoded (Err why) = None

-- an even number of lower-case hexadecimal digits, at least two
abbrev pub lower_bytes : List ℕ → Option (List ℕ)
lower_bytes digits = if list_all is_lower_digit digits && not (length digits == 0) then bytes_decoded (decode_of digits) else None

-- these words, and the bytes of an ICMP error behind them
abbrev pub error_named : List ℕ → (List ℕ → Shown) → List ℕ → Option Shown
error_named words kind text = do
  digits ← behind words text
  bytes ← lower_bytes digits
  Some (kind bytes)

-- what a first line shows: `list`, `conns`, `save`, `icmp in HEX` or `icmp out HEX`
abbrev pub shown_named : List ℕ → Option Shown
shown_named text = or_else (table_named text) (or_else (error_named (codes "icmp in ") shown.IcmpIn text) (error_named (codes "icmp out ") shown.IcmpOut text))

-- the first line of a listing: a listing without lines so far
abbrev pub listing_line_of : List ℕ → Option ReportLine
listing_line_of text = option_map (λ (kind : Shown). line.Shown (record { kind = kind; text = [] })) (shown_named text)

abbrev pub line_of : List ℕ → Option ReportLine
line_of text = or_else (head_line_of text) (or_else (act_line_of text) (listing_line_of text))

-- A LINE

-- what a line gives: what is whole with it, and the listing that is open behind it
pub record LineRead : Type 0 where
  pub whole : List ReportLine
  pub open_listing : Option ShownText

-- outside listings: a head and an act are whole with their line, a listing is open behind its first one
abbrev pub outside_listing : ReportLine → LineRead
outside_listing (line.Head number moment workers buckets) = record { whole = line.Head number moment workers buckets ∷ []; open_listing = None }
outside_listing (line.Act place actor number reply) = record { whole = line.Act place actor number reply ∷ []; open_listing = None }
outside_listing (line.Shown listing) = record { whole = []; open_listing = Some listing }

-- the line that ends a listing
abbrev pub is_end : List ℕ → Bool
is_end text = bytes_eq text (codes "end")

-- within a listing: the first line that is exactly `end` ends it, and any other is one of its lines
abbrev pub continued : ShownText → List ℕ → LineRead
continued listing text =
    if is_end text then record { whole = line.Shown listing ∷ []; open_listing = None }
    else record { whole = []; open_listing = Some (record listing { text = listing.text ++ text ++ 10 ∷ [] }) }

-- a line, by the listing that is open before it
abbrev pub report_line_read : Option ShownText → List ℕ → Option LineRead
report_line_read None text = option_map outside_listing (line_of text)
report_line_read (Some listing) text = Some (continued listing text)

-- A REPORT

-- more lines behind these, or the refusal
abbrev pub onto : List ReportLine → Result (List ReportLine) ℕ → Result (List ReportLine) ℕ
onto prefix (Ok lines) = Ok (prefix ++ lines)
onto prefix (Err number) = Err number

-- what the line of that number gives, and then the rest
abbrev pub read_then : ℕ → Option LineRead → (Option ShownText → Result (List ReportLine) ℕ) → Result (List ReportLine) ℕ
read_then number None rest = Err number
read_then number (Some read) rest = onto read.whole (rest read.open_listing)

-- the end: nothing stands behind the last line feed, and no listing is open
abbrev pub ended : ℕ → Option ShownText → List ℕ → Result (List ReportLine) ℕ
ended number None [] = Ok []
ended number None (byte ∷ bytes) = Err number
ended number (Some listing) last = Err number

-- the pieces between line feeds, from the line of that number on: each but the last is a line
abbrev pub lines_from : ℕ → Option ShownText → List (List ℕ) → Result (List ReportLine) ℕ
lines_from number listing [] = Err number
lines_from number listing (last ∷ []) = ended number listing last
lines_from number listing (text ∷ next ∷ more) = read_then number (report_line_read listing text) (λ (later : Option ShownText). lines_from (number + 1) later (next ∷ more))

-- the heads, acts and listings of a report, or the number of its first line outside the grammar, from 1
abbrev pub report_of : List ℕ → Result (List ReportLine) ℕ
report_of text = lines_from 1 None (slice_split is_feed text)
