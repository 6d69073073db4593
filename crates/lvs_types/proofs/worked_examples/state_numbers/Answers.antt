use Rattle.lvs_types.proofs.LedBack.{state_of_number-state_number}
use Rattle.lvs_types.proofs.worked_examples.state_numbers.Goals as goal

pub returns-clause-back : goal.returns-clause-back
returns-clause-back c = state_of_number-state_number
