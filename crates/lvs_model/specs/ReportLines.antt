-- What a reader finds in the report of a round, and which rounds' reports are read again (this project's profile).
use Rattle.std.specs.Prelude.{◌≡◌, ℕ, ◌+◌, ◌<◌, ◌^◌, Bool, true, false, not, ◌&&◌, ◌==◌, List, [], ◌∷◌, ◌++◌, map, length, if◌then◌else◌, nat_lt}
use Rattle.std.specs.List.{slice_split, list_all, AllByRecursion}
use Rattle.lvs_types.specs.declared.book.Noted.{Noted}
use Rattle.lvs_types.specs.declared.book.RoundBook.{RoundBook}
use Rattle.lvs_types.specs.declared.book.Shown.{Shown}
use Rattle.lvs_types.specs.declared.book.Shown.TheVariants as shown
use Rattle.lvs_types.specs.declared.book.ShownText.{ShownText}
use Rattle.lvs_types.specs.declared.report.ReportLine.{ReportLine}
use Rattle.lvs_types.specs.declared.report.ReportLine.TheVariants as line
use Rattle.lvs_model.specs.Lines.{is_feed}
use Rattle.lvs_model.specs.Report.{is_printed, reply_text}
use Rattle.lvs_model.specs.ReportReading.{is_end}

-- the acts that have a line, from this place on
abbrev pub act_lines : ℕ → List Noted → List ReportLine
act_lines place [] = []
act_lines place (act ∷ acts) =
    (if is_printed act.reply then line.Act place act.actor act.number (reply_text act.reply) ∷ [] else []) ++ act_lines (place + 1) acts

-- the head, the printed acts and the listings of a round
abbrev pub report_lines : RoundBook → List ReportLine
report_lines book =
    line.Head book.number book.moment book.workers book.buckets ∷ act_lines 0 book.acts ++ map (λ (listing : ShownText). line.Shown listing) book.shown

-- pieces of which each but the last, which is empty, is a line other than `end`
abbrev pub are_lines : List (List ℕ) → Bool
are_lines [] = false
are_lines (last ∷ []) = length last == 0
are_lines (text ∷ next ∷ more) = not (is_end text) && are_lines (next ∷ more)

-- lines that each end with a line feed, none of them exactly `end`
abbrev pub is_listing_text : List ℕ → Bool
is_listing_text text = are_lines (slice_split is_feed text)

abbrev pub is_byte : ℕ → Bool
is_byte n = nat_lt n 256

-- bytes, at least one
abbrev pub are_some_bytes : List ℕ → Bool
are_some_bytes bytes = not (length bytes == 0) && list_all is_byte bytes

-- a listing whose first line names it: an ICMP error has at least one byte
abbrev pub is_named : Shown → Bool
is_named shown.List = true
is_named shown.Conns = true
is_named shown.Save = true
is_named (shown.IcmpIn bytes) = are_some_bytes bytes
is_named (shown.IcmpOut bytes) = are_some_bytes bytes

-- a listing whose first line and whose end are found where they were printed
abbrev pub is_read_again : ShownText → Bool
is_read_again listing = is_named listing.kind && is_listing_text listing.text

-- the numbers of an act are within the range of their fields
abbrev pub IsActInRange : Noted → Type 0
IsActInRange act = (act.actor < 2 ^ 32) × (act.number < 2 ^ 64)

-- a round whose numbers are within the range of their fields, and whose listings are read again
pub record IsReadAgain (book : RoundBook) : Type 0 where
  pub number : book.number < 2 ^ 64
  pub moment : book.moment < 2 ^ 64
  pub workers : book.workers < 2 ^ 32
  pub buckets : book.buckets < 2 ^ 32
  pub places : length book.acts < 2 ^ 64
  pub acts : AllByRecursion (λ (act : Noted). IsActInRange act) book.acts
  pub listings : list_all (λ (listing : ShownText). is_read_again listing) book.shown ≡ true
