use Rattle.lvs_laws.proofs.TakeOvers.{step_sent}
use Rattle.lvs_laws.proofs.TakenUp.{step_taken_up}
use Rattle.lvs_laws.proofs.takeover.packets_follow_their_connection.Goals as goal

pub returns-clause-sent : goal.returns-clause-sent
returns-clause-sent c = step_sent

pub returns-clause-reusing : goal.returns-clause-reusing
returns-clause-reusing c = step_taken_up
