use Rattle.lvs_laws.proofs.ReleaseRuns.{run_released}
use Rattle.lvs_laws.proofs.release.a_server_that_is_gone_was_released.Goals as goal

pub returns : goal.returns
returns c = run_released
