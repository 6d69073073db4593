use Rattle.std.proofs.Common.{◌≡◌, ◌+◌, ◌≤◌, length}
use Rattle.std.specs.List.{slice_split}
use Rattle.lvs_model.specs.Lines.{is_feed}
use Rattle.lvs_model.specs.ReportReading.{onto, lines_from, report_of}
use Rattle.lvs_report.proofs.report.read_report.Given as goal

abbrev pub invariant-loop-line : goal.invariant-loop-line
invariant-loop-line l = record {
  so_far : onto l.reader.lines (lines_from l.number l.reader.open_listing (slice_split is_feed l.rest)) ≡ report_of l.bytes;
  counted : l.number + length l.rest ≤ length l.bytes + 1;
}

abbrev pub decreases-loop-line : goal.decreases-loop-line
decreases-loop-line l = length l.rest
