use Rattle.std.proofs.Common.{◌≡◌, ◌++◌, drop}
use Rattle.lvs_model.specs.Listings.{saved_services}
use Rattle.lvs_listing.proofs.saving.put_services.Given as goal

abbrev pub invariant-loop-service : goal.invariant-loop-service
invariant-loop-service l = l.out.items ++ saved_services l.rows (drop l.service-index l.services) ≡ l.initial.out.items ++ saved_services l.rows l.services
