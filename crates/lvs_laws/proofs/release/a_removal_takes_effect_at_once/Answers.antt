use Rattle.lvs_laws.proofs.ReleaseTaken.{removed_gone, removed_trashed}
use Rattle.lvs_laws.proofs.release.a_removal_takes_effect_at_once.Goals as goal

pub returns-clause-released : goal.returns-clause-released
returns-clause-released c = removed_gone

pub returns-clause-trashed : goal.returns-clause-trashed
returns-clause-trashed c = removed_trashed
