use Rattle.lvs_dests.proofs.Distinct.{well_formed}
use Rattle.lvs_dests.proofs.dests.Dests.candidates.Goals as goal

pub returns-clause-well_formed : goal.returns-clause-well_formed
returns-clause-well_formed c = well_formed c.self.inside.pool c.self.inside.lists c.self.inside.next c.self.invariant c.args.self.now c.self.view_is
