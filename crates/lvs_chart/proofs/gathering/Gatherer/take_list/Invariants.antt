use Rattle.std.proofs.Common.{length}
use Rattle.lvs_chart.proofs.gathering.Gatherer.take_list.Given as goal

abbrev pub decreases-loop-line : goal.decreases-loop-line
decreases-loop-line l = length l.rest
