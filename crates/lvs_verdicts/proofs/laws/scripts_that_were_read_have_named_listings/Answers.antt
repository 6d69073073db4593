use Rattle.lvs_verdicts.proofs.Named.{listings_named}
use Rattle.lvs_verdicts.proofs.laws.scripts_that_were_read_have_named_listings.Goals as goal

pub returns : goal.returns
returns c = listings_named
