use Rattle.std.proofs.Common.{refl}
use Rattle.std.specs.Fmt.{digits}
use Rattle.hex.specs.Hex.{encode_with}
use Rattle.lvs_model.specs.Listings.{key_text, options_text, mask_text, persist_text, flag_text}
use Rattle.lvs_model.proofs.worked_examples.checking.the_clock.Goals as goal

pub returns-clause-legal : goal.returns-clause-legal
unfolding digits encode_with key_text options_text mask_text persist_text flag_text
returns-clause-legal c = refl

pub returns-clause-skipped : goal.returns-clause-skipped
unfolding digits encode_with key_text options_text mask_text persist_text flag_text
returns-clause-skipped c = refl

pub returns-clause-before_order : goal.returns-clause-before_order
unfolding digits encode_with key_text options_text mask_text persist_text flag_text
returns-clause-before_order c = refl

pub returns-clause-left : goal.returns-clause-left
unfolding digits encode_with key_text options_text mask_text persist_text flag_text
returns-clause-left c = refl

pub returns-clause-released : goal.returns-clause-released
unfolding digits encode_with key_text options_text mask_text persist_text flag_text
returns-clause-released c = refl

pub returns-clause-silent : goal.returns-clause-silent
unfolding digits encode_with key_text options_text mask_text persist_text flag_text
returns-clause-silent c = refl

pub returns-clause-silent_behind : goal.returns-clause-silent_behind
unfolding digits encode_with key_text options_text mask_text persist_text flag_text
returns-clause-silent_behind c = refl

pub returns-clause-not_next : goal.returns-clause-not_next
unfolding digits encode_with key_text options_text mask_text persist_text flag_text
returns-clause-not_next c = refl
