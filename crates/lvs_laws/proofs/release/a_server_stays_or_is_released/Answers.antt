use Rattle.lvs_laws.proofs.ReleaseSteps.{step_becomes}
use Rattle.lvs_laws.proofs.release.a_server_stays_or_is_released.Goals as goal

pub returns : goal.returns
returns c = step_becomes
