use Rattle.std.proofs.Common.{refl}
use Rattle.lvs_model.specs.ExampleItems.{tunnel_source}
use Rattle.lvs_model.specs.State.{initial}
use Rattle.lvs_well_formed.proofs.Steps.{initial_well_formed, run_well_formed}
use Rattle.lvs_laws.specs.ReleaseExamples.{removed_then_swept}
use Rattle.lvs_laws.proofs.worked_releases.released_at_a_reap.Goals as goal

pub returns-clause-well_formed : goal.returns-clause-well_formed
returns-clause-well_formed c = run_well_formed (initial tunnel_source 1) removed_then_swept (initial_well_formed tunnel_source 1)

pub returns-clause-released : goal.returns-clause-released
returns-clause-released c = record { trashed = refl; unnamed = refl }
