-- The exit status of the program that draws (this project's profile).
use Rattle.std.specs.Prelude.{ℕ}
use Rattle.lvs_chart.specs.declared.status.ChartStatus.{ChartStatus}
use Rattle.lvs_chart.specs.declared.status.ChartStatus.TheVariants as status

-- each status has a number of its own, and 0 says that all went well
abbrev pub exit_number : ChartStatus → ℕ
exit_number status.Finished = 0
exit_number (status.ReportRefused line) = 1
exit_number (status.WordsRefused at) = 2
exit_number status.ReadFault = 3
exit_number status.WriteFault = 4
exit_number status.NoMemory = 5
exit_number status.ReportTooLong = 6
