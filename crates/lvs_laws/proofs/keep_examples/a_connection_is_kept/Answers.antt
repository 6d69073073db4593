use Rattle.std.proofs.Common.{[], ◌∷◌, None}
use Rattle.lvs_model.specs.ExampleItems.{web, add_example_service, add_web_server, syn, tunnel_source}
use Rattle.lvs_model.specs.State.{initial}
use Rattle.lvs_well_formed.proofs.Steps.{initial_well_formed, run_well_formed}
use Rattle.lvs_laws.proofs.keep_examples.a_connection_is_kept.Goals as goal

pub returns-clause-well_formed : goal.returns-clause-well_formed
returns-clause-well_formed c =
    run_well_formed (initial tunnel_source 1) (add_example_service web None ∷ add_web_server 1 ∷ syn 40000 ∷ []) (initial_well_formed tunnel_source 1)
