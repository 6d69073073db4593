use Rattle.lvs_types.proofs.LedBack.{scheduler_named-scheduler_name}
use Rattle.lvs_types.proofs.worked_examples.schedulers.Goals as goal

pub returns-clause-back : goal.returns-clause-back
returns-clause-back c = scheduler_named-scheduler_name
