use Rattle.lvs_laws.proofs.TakeOvers.{recorded_there, recorded_stays, recorded_lasts}
use Rattle.lvs_laws.proofs.takeover.recorded_connections_are_taken_over.Goals as goal

pub returns-clause-there : goal.returns-clause-there
returns-clause-there c = recorded_there

pub returns-clause-stays : goal.returns-clause-stays
returns-clause-stays c = recorded_stays

pub returns-clause-lasts : goal.returns-clause-lasts
returns-clause-lasts c = recorded_lasts
