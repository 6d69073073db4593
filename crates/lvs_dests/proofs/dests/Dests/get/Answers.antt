use Rattle.lvs_dests.proofs.Distinct.{well_formed}
use Rattle.lvs_dests.proofs.dests.Dests.get.Goals as goal

pub returns-in-Some-clause-well_formed : goal.returns-in-Some-clause-well_formed
returns-in-Some-clause-well_formed c = well_formed c.self.inside.pool c.self.inside.lists c.self.inside.next c.self.invariant c.args.self.now c.self.view_is

pub returns-in-None-clause-well_formed : goal.returns-in-None-clause-well_formed
returns-in-None-clause-well_formed c = well_formed c.self.inside.pool c.self.inside.lists c.self.inside.next c.self.invariant c.args.self.now c.self.view_is
