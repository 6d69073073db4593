use Rattle.std.proofs.Common.{[], ◌∷◌, None, refl}
use Rattle.lvs_model.specs.ExampleItems.{web, add_example_service, add_web_server, tunnel_source}
use Rattle.lvs_model.specs.State.{initial}
use Rattle.lvs_well_formed.proofs.Steps.{initial_well_formed, run_well_formed}
use Rattle.lvs_laws.specs.KeepExamples.{start_backup}
use Rattle.lvs_laws.proofs.keep_examples.a_connection_is_taken_over.Goals as goal

pub returns-clause-well_formed : goal.returns-clause-well_formed
returns-clause-well_formed c =
    run_well_formed (initial tunnel_source 1) (add_example_service web None ∷ add_web_server 1 ∷ add_web_server 2 ∷ start_backup ∷ []) (initial_well_formed tunnel_source 1)

pub returns-clause-accepted : goal.returns-clause-accepted
returns-clause-accepted c = record { accepted = refl; connection = refl }

pub returns-clause-plain : goal.returns-clause-plain
returns-clause-plain c = record { packet = record { reads = refl; transport = refl; key = refl }; stays = refl }
