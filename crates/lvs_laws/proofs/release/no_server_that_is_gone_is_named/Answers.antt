use Rattle.lvs_model.specs.Step.{step}
use Rattle.lvs_well_formed.proofs.Steps.{step_well_formed}
use Rattle.lvs_laws.proofs.ReleaseSteps.{gone_unnamed}
use Rattle.lvs_laws.proofs.release.no_server_that_is_gone_is_named.Goals as goal

pub returns-clause-always : goal.returns-clause-always
returns-clause-always c = gone_unnamed

pub returns-clause-released : goal.returns-clause-released
returns-clause-released c = λ s next id w gone. gone_unnamed (step s next).1 id (step_well_formed s next w) gone
