use Rattle.std.proofs.Common.{refl}
use Rattle.std.specs.Fmt.{digits}
use Rattle.lvs_model.proofs.worked_examples.program.two_clients.Goals as goal

pub returns : goal.returns
unfolding digits
returns c = refl
