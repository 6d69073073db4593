use Rattle.std.proofs.Common.{refl}
use Rattle.hex.specs.Hex.{decode_pairs}
use Rattle.lvs_model.proofs.worked_examples.errors.lines_of_scripts.Goals as goal

pub returns-clause-inward : goal.returns-clause-inward
unfolding decode_pairs
returns-clause-inward c = refl

pub returns-clause-outward : goal.returns-clause-outward
unfolding decode_pairs
returns-clause-outward c = refl

pub returns-clause-digits : goal.returns-clause-digits
unfolding decode_pairs
returns-clause-digits c = refl
