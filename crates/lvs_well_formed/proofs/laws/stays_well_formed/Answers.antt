use Rattle.lvs_well_formed.proofs.Steps.{initial_well_formed, step_well_formed, run_well_formed}
use Rattle.lvs_well_formed.proofs.laws.stays_well_formed.Goals as goal

pub returns-clause-begins : goal.returns-clause-begins
returns-clause-begins c = initial_well_formed

pub returns-clause-goes_on : goal.returns-clause-goes_on
returns-clause-goes_on c = step_well_formed

pub returns-clause-runs : goal.returns-clause-runs
returns-clause-runs c = run_well_formed
