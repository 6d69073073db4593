use Rattle.std.proofs.Common.{refl}
use Rattle.std.specs.Fmt.{digits}
use Rattle.hex.specs.Hex.{encode_with}
use Rattle.lvs_model.specs.Listings.{key_text, options_text, mask_text, persist_text, flag_text}
use Rattle.lvs_model.proofs.worked_examples.checking.lines_in_order.Goals as goal

pub returns-clause-left_out : goal.returns-clause-left_out
unfolding digits encode_with key_text options_text mask_text persist_text flag_text
returns-clause-left_out c = refl

pub returns-clause-doubled : goal.returns-clause-doubled
unfolding digits encode_with key_text options_text mask_text persist_text flag_text
returns-clause-doubled c = refl

pub returns-clause-far : goal.returns-clause-far
unfolding digits encode_with key_text options_text mask_text persist_text flag_text
returns-clause-far c = refl

pub returns-clause-item_missing : goal.returns-clause-item_missing
unfolding digits encode_with key_text options_text mask_text persist_text flag_text
returns-clause-item_missing c = refl

pub returns-clause-item_more : goal.returns-clause-item_more
unfolding digits encode_with key_text options_text mask_text persist_text flag_text
returns-clause-item_more c = refl

pub returns-clause-other_answer : goal.returns-clause-other_answer
unfolding digits encode_with key_text options_text mask_text persist_text flag_text
returns-clause-other_answer c = refl

pub returns-clause-no_line : goal.returns-clause-no_line
unfolding digits encode_with key_text options_text mask_text persist_text flag_text
returns-clause-no_line c = refl

pub returns-clause-end_alone : goal.returns-clause-end_alone
unfolding digits encode_with key_text options_text mask_text persist_text flag_text
returns-clause-end_alone c = refl
