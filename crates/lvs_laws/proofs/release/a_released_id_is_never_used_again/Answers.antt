use Rattle.lvs_model.specs.Step.{run}
use Rattle.lvs_well_formed.proofs.Steps.{run_well_formed}
use Rattle.lvs_laws.proofs.ReleaseSteps.{gone_unnamed}
use Rattle.lvs_laws.proofs.ReleaseRuns.{run_gone, gone_ever_after}
use Rattle.lvs_laws.proofs.release.a_released_id_is_never_used_again.Goals as goal

pub returns-clause-gone : goal.returns-clause-gone
returns-clause-gone c = run_gone

pub returns-clause-unnamed : goal.returns-clause-unnamed
returns-clause-unnamed c = λ s items id w below gone. gone_unnamed (run s items).1 id (run_well_formed s items w) (run_gone s items id w below gone)

pub returns-clause-ever_after : goal.returns-clause-ever_after
returns-clause-ever_after c = gone_ever_after
