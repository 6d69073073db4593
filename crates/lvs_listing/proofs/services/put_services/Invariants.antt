use Rattle.std.proofs.Common.{◌≡◌, ◌++◌, drop}
use Rattle.lvs_model.specs.Listings.{service_lines}
use Rattle.lvs_listing.proofs.services.put_services.Given as goal

abbrev pub invariant-loop-service : goal.invariant-loop-service
invariant-loop-service l = l.out.items ++ service_lines l.rows (drop l.service-index l.services) ≡ l.initial.out.items ++ service_lines l.rows l.services
