use Rattle.lvs_flat.proofs.placing.step_back_from.Goals as goal

pub returns : goal.returns
returns c = rw c.find_before-before.ensures at c.set_step_back.ensures
