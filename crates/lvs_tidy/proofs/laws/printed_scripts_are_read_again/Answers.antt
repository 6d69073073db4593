use Rattle.lvs_tidy.proofs.laws.printed_scripts_are_read_again.Goals as goal
use Rattle.lvs_tidy.proofs.ReadAgain.{script_again}

pub returns : goal.returns
returns c = script_again
