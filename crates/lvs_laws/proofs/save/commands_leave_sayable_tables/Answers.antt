use Rattle.lvs_laws.proofs.SaveEdits.{step_keeps, run_keeps, initial_sayable}
use Rattle.lvs_laws.proofs.save.commands_leave_sayable_tables.Goals as goal

pub returns-clause-step : goal.returns-clause-step
returns-clause-step c = λ s next are is. step_keeps s next is are

pub returns-clause-run : goal.returns-clause-run
returns-clause-run c = λ s items are each. run_keeps s items each are

pub returns-clause-begins : goal.returns-clause-begins
returns-clause-begins c = initial_sayable
