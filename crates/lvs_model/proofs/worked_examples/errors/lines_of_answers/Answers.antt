use Rattle.std.proofs.Common.{refl}
use Rattle.std.specs.Fmt.{digits}
use Rattle.hex.specs.Hex.{encode_with}
use Rattle.lvs_model.proofs.worked_examples.errors.lines_of_answers.Goals as goal

pub returns : goal.returns
unfolding digits encode_with
returns c = record { to_server = refl; to_client = refl; passing = refl; gone = refl; sum = refl; malformed = refl }
