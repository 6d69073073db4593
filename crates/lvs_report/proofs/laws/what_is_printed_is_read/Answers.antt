use Rattle.lvs_report.proofs.ReadAgain.{read_again}
use Rattle.lvs_report.proofs.laws.what_is_printed_is_read.Goals as goal

pub returns : goal.returns
returns c = read_again
