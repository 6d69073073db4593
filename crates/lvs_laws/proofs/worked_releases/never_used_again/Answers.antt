use Rattle.lvs_model.specs.ExampleItems.{tunnel_source}
use Rattle.lvs_model.specs.State.{initial}
use Rattle.lvs_well_formed.proofs.Steps.{initial_well_formed, run_well_formed}
use Rattle.lvs_laws.specs.ReleaseExamples.{swept_then_reaped}
use Rattle.lvs_laws.proofs.worked_releases.never_used_again.Goals as goal

pub returns-clause-well_formed : goal.returns-clause-well_formed
returns-clause-well_formed c = run_well_formed (initial tunnel_source 1) swept_then_reaped (initial_well_formed tunnel_source 1)
