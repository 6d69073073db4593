use Rattle.lvs_dests.proofs.Tied.{tied_reap}
use Rattle.lvs_dests.proofs.dests.Dests.reap.Goals as goal

pub invariant_of-self : goal.invariant_of-self
invariant_of-self c = tied_reap c.self.inside.pool c.self.inside.lists c.self.inside.next c.self.invariant c.reap.new.self c.reap.ensures.whole c.reap.ensures.rows
