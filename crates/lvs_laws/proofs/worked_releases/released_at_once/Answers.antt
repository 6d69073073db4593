use Rattle.std.proofs.Common.{refl}
use Rattle.lvs_model.specs.ExampleItems.{tunnel_source}
use Rattle.lvs_model.specs.State.{initial}
use Rattle.lvs_well_formed.proofs.Steps.{initial_well_formed, run_well_formed}
use Rattle.lvs_laws.specs.ReleaseExamples.{one_server}
use Rattle.lvs_laws.proofs.worked_releases.released_at_once.Goals as goal

pub returns-clause-well_formed : goal.returns-clause-well_formed
returns-clause-well_formed c = run_well_formed (initial tunnel_source 1) one_server (initial_well_formed tunnel_source 1)

pub returns-clause-by_itself : goal.returns-clause-by_itself
returns-clause-by_itself c = record { live = refl; taken = (refl, refl, refl); unnamed = refl }

pub returns-clause-by_its_service : goal.returns-clause-by_its_service
returns-clause-by_its_service c = record { live = refl; taken = refl; unnamed = refl }

pub returns-clause-by_clear : goal.returns-clause-by_clear
returns-clause-by_clear c = record { live = refl; taken = tt; unnamed = refl }
