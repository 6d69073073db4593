use Rattle.std.proofs.Common.{refl}
use Rattle.lvs_dests.proofs.Cleared.{tied_cleared}
use Rattle.lvs_dests.proofs.Distinct.{well_formed}
use Rattle.lvs_dests.proofs.dests.Dests.remove_all.Goals as goal

pub invariant_of-self : goal.invariant_of-self
invariant_of-self c = tied_cleared c.self.inside.pool c.leave_all.new.self c.self.inside.lists c.new.result c.self.inside.next c.self.invariant c.leave_all.ensures.whole c.leave_all.ensures.rows c.new.ensures

pub returns-clause-well_formed : goal.returns-clause-well_formed
returns-clause-well_formed c =
    well_formed c.leave_all.new.self c.new.result c.self.inside.next
    (tied_cleared c.self.inside.pool c.leave_all.new.self c.self.inside.lists c.new.result c.self.inside.next c.self.invariant c.leave_all.ensures.whole c.leave_all.ensures.rows c.new.ensures) _ refl
