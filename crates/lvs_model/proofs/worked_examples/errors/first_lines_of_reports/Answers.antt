use Rattle.std.proofs.Common.{refl}
use Rattle.hex.specs.Hex.{decode_pairs}
use Rattle.lvs_model.proofs.worked_examples.errors.first_lines_of_reports.Goals as goal

pub returns-clause-inward : goal.returns-clause-inward
unfolding decode_pairs
returns-clause-inward c = refl

pub returns-clause-outward : goal.returns-clause-outward
unfolding decode_pairs
returns-clause-outward c = refl
