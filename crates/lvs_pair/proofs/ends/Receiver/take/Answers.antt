use Rattle.lvs_pair.proofs.Relays.{takes_by, taker_learns}
use Rattle.lvs_pair.proofs.ends.Receiver.take.Goals as goal

pub pop_as-requires-clause-rule : goal.pop_as-requires-clause-rule
pop_as-requires-clause-rule g c = (takes_by _ _ c.self.invariant.1, taker_learns _ _ c.self.invariant.1)
