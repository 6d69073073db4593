-- A report by its first line and the rest.
use Rattle.std.proofs.Common.{◌≡◌, ℕ, ◌+◌, ◌<◌, List, [], ◌∷◌, ◌++◌, length, Option, Some, None, Result, Ok, Err, refl, sym, ◌∙◌, ap, arith, append_assoc, option_map}
use Rattle.std.specs.List.{slice_split}
use Rattle.std.proofs.lemmas.List.Splits.{length-slice_split}
use Rattle.lvs_types.specs.declared.book.ShownText.{ShownText}
use Rattle.lvs_types.specs.declared.report.ReportLine.{ReportLine}
use Rattle.lvs_model.specs.Lines.{is_feed, cut_by}
use Rattle.lvs_model.specs.ReportReading.{LineRead, report_line_read, onto, read_then, lines_from, ended}
use Rattle.lvs_report.specs.Reader.{ReadSoFar, with_read, with_line}
use Rattle.lvs_lines.proofs.Splits.{cut_pair, split_found, split_missed}

abbrev Answer : Type 0
Answer = Result (List ReportLine) ℕ

pub onto_onto : (first second : List ReportLine) (rest : Answer) → onto (first ++ second) rest ≡ onto first (onto second rest)
onto_onto first second (Ok lines) = ap Ok (append_assoc first second lines)
onto_onto first second (Err number) = refl

pub more_pieces : (number : ℕ) (listing : Option ShownText) (text : List ℕ) (pieces : List (List ℕ)) → 0 < length pieces → lines_from number listing (text ∷ pieces) ≡ read_then number (report_line_read listing text) (λ (later : Option ShownText). lines_from (number + 1) later pieces)
more_pieces number listing text [] some = absurd (omega arith)
more_pieces number listing text (next ∷ more) some = refl

-- the first line is read, then the rest
pub lines_cut : (number : ℕ) (listing : Option ShownText) (text line after : List ℕ) → cut_pair line after ≡ cut_by is_feed text → lines_from number listing (slice_split is_feed text) ≡ read_then number (report_line_read listing line) (λ (later : Option ShownText). lines_from (number + 1) later (slice_split is_feed after))
lines_cut number listing text line after cut =
    ap (lines_from number listing) (split_found is_feed text line after cut) ∙ more_pieces number listing line (slice_split is_feed after) (omega (arith, length-slice_split is_feed after))

-- a line that is read
read_step : (s next : ReadSoFar) (number : ℕ) (read : Option LineRead) (rest : Option ShownText → Answer) → option_map (λ (r : LineRead). with_read s r) read ≡ Some next → onto next.lines (rest next.open_listing) ≡ onto s.lines (read_then number read rest)
read_step s next number None rest is = absurd cc
read_step s next number (Some read) rest is =
    let same : with_read s read ≡ next = cc in
    ap (λ (t : ReadSoFar). onto t.lines (rest t.open_listing)) (sym same) ∙ onto_onto s.lines read.whole (rest read.open_listing)

pub lines_step : (s next : ReadSoFar) (number : ℕ) (text line after : List ℕ) (whole : Answer) → cut_pair line after ≡ cut_by is_feed text → with_line s line ≡ Some next → onto s.lines (lines_from number s.open_listing (slice_split is_feed text)) ≡ whole → onto next.lines (lines_from (number + 1) next.open_listing (slice_split is_feed after)) ≡ whole
lines_step s next number text line after whole cut read so_far =
    read_step s next number (report_line_read s.open_listing line) (λ (later : Option ShownText). lines_from (number + 1) later (slice_split is_feed after)) read
    ∙ sym (ap (onto s.lines) (lines_cut number s.open_listing text line after cut))
    ∙ so_far

-- a line that is refused
pub lines_stop : (s : ReadSoFar) (number at : ℕ) (text line after : List ℕ) (whole : Answer) → cut_pair line after ≡ cut_by is_feed text → (at ≡ number) × (report_line_read s.open_listing line ≡ None) → onto s.lines (lines_from number s.open_listing (slice_split is_feed text)) ≡ whole → whole ≡ Err at
lines_stop s number at text line after whole cut refused so_far =
    let rest : Option ShownText → Answer = λ later. lines_from (number + 1) later (slice_split is_feed after) in
    sym so_far
    ∙ ap (onto s.lines) (lines_cut number s.open_listing text line after cut ∙ ap (λ (read : Option LineRead). read_then number read rest) refused.1)
    ∙ ap Err (sym refused.0)

-- what stands behind the last line feed
pub lines_end : (s : ReadSoFar) (number : ℕ) (text : List ℕ) (whole answer : Answer) → None ≡ cut_by is_feed text → onto s.lines (lines_from number s.open_listing (slice_split is_feed text)) ≡ whole → onto s.lines (ended number s.open_listing text) ≡ answer → whole ≡ answer
lines_end s number text whole answer cut so_far last = sym so_far ∙ ap (λ (pieces : List (List ℕ)). onto s.lines (lines_from number s.open_listing pieces)) (split_missed is_feed text cut) ∙ last
