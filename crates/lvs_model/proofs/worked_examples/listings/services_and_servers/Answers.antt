use Rattle.std.proofs.Common.{refl}
use Rattle.std.specs.Fmt.{digits}
use Rattle.lvs_model.specs.Listings.{key_text, options_text, mask_text, persist_text, flag_text}
use Rattle.lvs_model.proofs.worked_examples.listings.services_and_servers.Goals as goal

pub returns : goal.returns
unfolding digits key_text options_text mask_text persist_text flag_text
returns c = record { service = refl; flags = refl; server = refl }
