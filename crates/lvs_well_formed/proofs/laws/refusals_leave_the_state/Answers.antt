use Rattle.lvs_well_formed.proofs.Leaves.{edit_leaves, learn_leaves}
use Rattle.lvs_well_formed.proofs.laws.refusals_leave_the_state.Goals as goal

pub returns-clause-edits : goal.returns-clause-edits
returns-clause-edits c = edit_leaves

pub returns-clause-records : goal.returns-clause-records
returns-clause-records c = learn_leaves
