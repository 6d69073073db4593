use Rattle.std.proofs.Common.{refl}
use Rattle.std.specs.Fmt.{digits}
use Rattle.hex.specs.Hex.{encode_with}
use Rattle.lvs_model.proofs.worked_examples.pairs.a_pair_written.Goals as goal

pub returns-clause-heads : goal.returns-clause-heads
unfolding digits encode_with
returns-clause-heads c = refl
