use Rattle.std.proofs.Common.{◌≡◌, ◌++◌, drop}
use Rattle.lvs_model.specs.Report.{listings_text}
use Rattle.lvs_report.proofs.listing.put_listings.Given as goal

abbrev pub invariant-loop-listing : goal.invariant-loop-listing
invariant-loop-listing l = l.out.items ++ listings_text (drop l.listing-index l.listings) ≡ l.initial.out.items ++ listings_text l.listings
