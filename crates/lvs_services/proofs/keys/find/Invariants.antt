use Rattle.std.proofs.Common.{◌≡◌, drop}
use Rattle.lvs_model.specs.Lookups.{service_at}
use Rattle.lvs_services.proofs.keys.find.Given as goal

abbrev pub invariant-loop-service : goal.invariant-loop-service
invariant-loop-service l = service_at l.key (drop l.service-index l.services) ≡ service_at l.key l.services
