use Rattle.std.proofs.Common.{refl}
use Rattle.std.specs.Fmt.{digits}
use Rattle.hex.specs.Hex.{encode_with}
use Rattle.lvs_model.proofs.worked_examples.report.a_head.Goals as goal

pub returns : goal.returns
unfolding digits encode_with
returns c = refl
