-- What the reader of a report has read so far.
use Rattle.std.specs.Prelude.{ℕ, List, [], ◌++◌, Option, None, option_map}
use Rattle.lvs_types.specs.declared.book.ShownText.{ShownText}
use Rattle.lvs_types.specs.declared.report.ReportLine.{ReportLine}
use Rattle.lvs_types.specs.declared.report.ReportLine.TheVariants as line
use Rattle.lvs_report.specs.declared.line.ActParts.{ActParts}
use Rattle.lvs_model.specs.ReportReading.{LineRead, report_line_read}

-- the act of its parts
abbrev pub act_from : ActParts → ReportLine
act_from parts = line.Act parts.place parts.actor parts.number parts.reply.now

-- the heads, acts and listings that are whole, and the listing that is open
pub record ReadSoFar : Type 0 where
  pub lines : List ReportLine
  pub open_listing : Option ShownText

-- nothing was read
abbrev pub nothing_read : ReadSoFar
nothing_read = record { lines = []; open_listing = None }

-- with what a line gives
abbrev pub with_read : ReadSoFar → LineRead → ReadSoFar
with_read s read = record { lines = s.lines ++ read.whole; open_listing = read.open_listing }

-- with a line more, where it is in the grammar
abbrev pub with_line : ReadSoFar → List ℕ → Option ReadSoFar
with_line s text = option_map (λ (read : LineRead). with_read s read) (report_line_read s.open_listing text)
