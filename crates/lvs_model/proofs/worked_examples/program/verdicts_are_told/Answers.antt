use Rattle.std.proofs.Common.{refl}
use Rattle.std.specs.Fmt.{digits}
use Rattle.lvs_model.proofs.worked_examples.program.verdicts_are_told.Goals as goal

pub returns-clause-unreadable : goal.returns-clause-unreadable
unfolding digits
returns-clause-unreadable c = refl

pub returns-clause-illegal : goal.returns-clause-illegal
unfolding digits
returns-clause-illegal c = refl

pub returns-clause-empty : goal.returns-clause-empty
unfolding digits
returns-clause-empty c = refl
