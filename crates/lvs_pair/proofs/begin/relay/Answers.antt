use Rattle.lvs_pair.proofs.Relays.{begins, forks_begun}
use Rattle.lvs_pair.proofs.begin.relay.Goals as goal

pub ruled-requires-clause-rule : goal.ruled-requires-clause-rule
ruled-requires-clause-rule c = begins

pub another-other-requires-clause-rule : goal.another-other-requires-clause-rule
another-other-requires-clause-rule c = forks_begun _ _ c.in_ok-queue.ensures.3
