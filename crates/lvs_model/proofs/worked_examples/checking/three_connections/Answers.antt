use Rattle.std.proofs.Common.{refl}
use Rattle.std.specs.Fmt.{digits}
use Rattle.hex.specs.Hex.{encode_with}
use Rattle.lvs_model.specs.Listings.{key_text, options_text, mask_text, persist_text, flag_text}
use Rattle.lvs_model.proofs.worked_examples.checking.three_connections.Goals as goal

pub returns-clause-legal : goal.returns-clause-legal
unfolding digits encode_with key_text options_text mask_text persist_text flag_text
returns-clause-legal c = refl

pub returns-clause-illegal : goal.returns-clause-illegal
unfolding digits encode_with key_text options_text mask_text persist_text flag_text
returns-clause-illegal c = refl

pub returns-clause-left_out : goal.returns-clause-left_out
unfolding digits encode_with key_text options_text mask_text persist_text flag_text
returns-clause-left_out c = refl
