use Rattle.std.proofs.Common.{refl}
use Rattle.std.specs.Fmt.{digits}
use Rattle.hex.specs.Hex.{encode_with}
use Rattle.lvs_examples.proofs.rounds.a_round_of_each_kind.Goals as goal

pub returns : goal.returns
unfolding digits encode_with
returns c = λ asked. refl
