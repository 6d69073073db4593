use Rattle.lvs_laws.proofs.ReleaseLeft.{reaped_gone}
use Rattle.lvs_laws.proofs.release.a_reap_releases_what_nothing_names.Goals as goal

pub returns : goal.returns
returns c = reaped_gone
