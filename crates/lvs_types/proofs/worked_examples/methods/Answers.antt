use Rattle.lvs_types.proofs.LedBack.{method_of_code-method_code}
use Rattle.lvs_types.proofs.worked_examples.methods.Goals as goal

pub returns-clause-back : goal.returns-clause-back
returns-clause-back c = method_of_code-method_code
