-- The line on standard error of the program that draws (this project's profile).
use Rattle.std.specs.Prelude.{ℕ, List, [], ◌++◌, codes, decimal}
use Rattle.lvs_chart.specs.declared.status.ChartStatus.{ChartStatus}
use Rattle.lvs_chart.specs.declared.status.ChartStatus.TheVariants as status

-- without a line end, and empty where all went well
abbrev pub chart_fault_text : ChartStatus → List ℕ
chart_fault_text status.Finished = []
chart_fault_text (status.ReportRefused line) = codes "ipvsd_chart: report refused, line " ++ decimal line
chart_fault_text (status.WordsRefused at) = codes "ipvsd_chart: words refused, word " ++ decimal at
chart_fault_text status.ReadFault = codes "ipvsd_chart: read fault"
chart_fault_text status.WriteFault = codes "ipvsd_chart: write fault"
chart_fault_text status.NoMemory = codes "ipvsd_chart: no memory"
chart_fault_text status.ReportTooLong = codes "ipvsd_chart: report too long"
