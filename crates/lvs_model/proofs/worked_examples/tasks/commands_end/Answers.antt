use Rattle.std.proofs.Common.{refl}
use Rattle.std.specs.Fmt.{digits}
use Rattle.lvs_model.proofs.worked_examples.tasks.commands_end.Goals as goal

pub returns-clause-legal : goal.returns-clause-legal
unfolding digits
returns-clause-legal c = refl
