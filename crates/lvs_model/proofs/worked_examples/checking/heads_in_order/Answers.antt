use Rattle.std.proofs.Common.{refl}
use Rattle.std.specs.Fmt.{digits}
use Rattle.hex.specs.Hex.{encode_with}
use Rattle.lvs_model.specs.Listings.{key_text, options_text, mask_text, persist_text, flag_text}
use Rattle.lvs_model.proofs.worked_examples.checking.heads_in_order.Goals as goal

pub returns-clause-nothing : goal.returns-clause-nothing
unfolding digits encode_with key_text options_text mask_text persist_text flag_text
returns-clause-nothing c = refl

pub returns-clause-no_script : goal.returns-clause-no_script
unfolding digits encode_with key_text options_text mask_text persist_text flag_text
returns-clause-no_script c = refl

pub returns-clause-no_report : goal.returns-clause-no_report
unfolding digits encode_with key_text options_text mask_text persist_text flag_text
returns-clause-no_report c = refl

pub returns-clause-no_head : goal.returns-clause-no_head
unfolding digits encode_with key_text options_text mask_text persist_text flag_text
returns-clause-no_head c = refl

pub returns-clause-one : goal.returns-clause-one
unfolding digits encode_with key_text options_text mask_text persist_text flag_text
returns-clause-one c = refl

pub returns-clause-largest : goal.returns-clause-largest
unfolding digits encode_with key_text options_text mask_text persist_text flag_text
returns-clause-largest c = refl

pub returns-clause-many_workers : goal.returns-clause-many_workers
unfolding digits encode_with key_text options_text mask_text persist_text flag_text
returns-clause-many_workers c = refl

pub returns-clause-no_buckets : goal.returns-clause-no_buckets
unfolding digits encode_with key_text options_text mask_text persist_text flag_text
returns-clause-no_buckets c = refl

pub returns-clause-other_number : goal.returns-clause-other_number
unfolding digits encode_with key_text options_text mask_text persist_text flag_text
returns-clause-other_number c = refl

pub returns-clause-other_moment : goal.returns-clause-other_moment
unfolding digits encode_with key_text options_text mask_text persist_text flag_text
returns-clause-other_moment c = refl

pub returns-clause-behind_the_last : goal.returns-clause-behind_the_last
unfolding digits encode_with key_text options_text mask_text persist_text flag_text
returns-clause-behind_the_last c = refl

pub returns-clause-unterminated : goal.returns-clause-unterminated
unfolding digits encode_with key_text options_text mask_text persist_text flag_text
returns-clause-unterminated c = refl

pub returns-clause-other_workers : goal.returns-clause-other_workers
unfolding digits encode_with key_text options_text mask_text persist_text flag_text
returns-clause-other_workers c = refl

pub returns-clause-head_missing : goal.returns-clause-head_missing
unfolding digits encode_with key_text options_text mask_text persist_text flag_text
returns-clause-head_missing c = refl
