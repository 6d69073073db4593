use Rattle.std.proofs.Common.{refl}
use Rattle.std.specs.Fmt.{digits}
use Rattle.lvs_model.specs.Listings.{mask_text, persist_text, flag_text, options_text, threshold_text, key_text, key_words}
use Rattle.lvs_listing.proofs.worked_examples.a_web_service.Goals as goal

pub returns : goal.returns
unfolding digits mask_text persist_text flag_text options_text threshold_text key_text key_words
returns c = refl
