use Rattle.lvs_laws.proofs.KeptSteps.{step_kept, run_kept}
use Rattle.lvs_laws.proofs.keep.connections_are_kept.Goals as goal

pub returns-clause-step : goal.returns-clause-step
returns-clause-step c = step_kept

pub returns-clause-runs : goal.returns-clause-runs
returns-clause-runs c = run_kept
