use Rattle.lvs_well_formed.proofs.Steps.{step_rises, run_rises}
use Rattle.lvs_well_formed.proofs.laws.ids_rise.Goals as goal

pub returns-clause-goes_on : goal.returns-clause-goes_on
returns-clause-goes_on c = step_rises

pub returns-clause-runs : goal.returns-clause-runs
returns-clause-runs c = run_rises
