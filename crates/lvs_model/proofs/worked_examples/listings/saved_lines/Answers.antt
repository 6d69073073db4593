use Rattle.std.proofs.Common.{refl}
use Rattle.std.specs.Fmt.{digits}
use Rattle.lvs_model.specs.Listings.{key_words, options_text, mask_text, persist_text, flag_text, threshold_text}
use Rattle.lvs_model.proofs.worked_examples.listings.saved_lines.Goals as goal

pub returns : goal.returns
unfolding digits key_words options_text mask_text persist_text flag_text threshold_text
returns c = record { service = refl; server = refl }
