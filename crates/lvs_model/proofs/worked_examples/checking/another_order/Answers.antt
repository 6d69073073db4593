use Rattle.std.proofs.Common.{refl}
use Rattle.std.specs.Fmt.{digits}
use Rattle.hex.specs.Hex.{encode_with}
use Rattle.lvs_model.specs.Listings.{key_text, options_text, mask_text, persist_text, flag_text}
use Rattle.lvs_model.proofs.worked_examples.checking.another_order.Goals as goal

pub returns-clause-turned : goal.returns-clause-turned
unfolding digits encode_with key_text options_text mask_text persist_text flag_text
returns-clause-turned c = refl

pub returns-clause-early : goal.returns-clause-early
unfolding digits encode_with key_text options_text mask_text persist_text flag_text
returns-clause-early c = refl

pub returns-clause-other_worker : goal.returns-clause-other_worker
unfolding digits encode_with key_text options_text mask_text persist_text flag_text
returns-clause-other_worker c = refl

pub returns-clause-no_worker : goal.returns-clause-no_worker
unfolding digits encode_with key_text options_text mask_text persist_text flag_text
returns-clause-no_worker c = refl
