use Rattle.std.proofs.Common.{refl}
use Rattle.std.specs.Fmt.{digits}
use Rattle.hex.specs.Hex.{encode_with}
use Rattle.lvs_model.specs.Listings.{key_text, options_text, mask_text, persist_text, flag_text}
use Rattle.lvs_model.proofs.worked_examples.checking.listings_are_compared.Goals as goal

pub returns-clause-legal : goal.returns-clause-legal
unfolding digits encode_with key_text options_text mask_text persist_text flag_text
returns-clause-legal c = refl

pub returns-clause-at_once : goal.returns-clause-at_once
unfolding digits encode_with key_text options_text mask_text persist_text flag_text
returns-clause-at_once c = refl

pub returns-clause-other_line : goal.returns-clause-other_line
unfolding digits encode_with key_text options_text mask_text persist_text flag_text
returns-clause-other_line c = refl

pub returns-clause-line_left_out : goal.returns-clause-line_left_out
unfolding digits encode_with key_text options_text mask_text persist_text flag_text
returns-clause-line_left_out c = refl

pub returns-clause-line_more : goal.returns-clause-line_more
unfolding digits encode_with key_text options_text mask_text persist_text flag_text
returns-clause-line_more c = refl

pub returns-clause-cut_off : goal.returns-clause-cut_off
unfolding digits encode_with key_text options_text mask_text persist_text flag_text
returns-clause-cut_off c = refl

pub returns-clause-unterminated : goal.returns-clause-unterminated
unfolding digits encode_with key_text options_text mask_text persist_text flag_text
returns-clause-unterminated c = refl

pub returns-clause-out_of_order : goal.returns-clause-out_of_order
unfolding digits encode_with key_text options_text mask_text persist_text flag_text
returns-clause-out_of_order c = refl

pub returns-clause-missing : goal.returns-clause-missing
unfolding digits encode_with key_text options_text mask_text persist_text flag_text
returns-clause-missing c = refl

pub returns-clause-surplus : goal.returns-clause-surplus
unfolding digits encode_with key_text options_text mask_text persist_text flag_text
returns-clause-surplus c = refl

pub returns-clause-act_behind : goal.returns-clause-act_behind
unfolding digits encode_with key_text options_text mask_text persist_text flag_text
returns-clause-act_behind c = refl
