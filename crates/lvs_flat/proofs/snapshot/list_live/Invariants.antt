use Rattle.std.proofs.Common.{◌≡◌, ◌++◌, drop}
use Rattle.std.specs.List.{flat_map}
use Rattle.lvs_types.specs.declared.service.Service.{Service}
use Rattle.lvs_model.specs.Lookups.{servers_of}
use Rattle.lvs_flat.proofs.snapshot.list_live.Given as goal

abbrev pub invariant-loop-service : goal.invariant-loop-service
invariant-loop-service l = l.shown.items ++ flat_map (λ (service : Service). servers_of service.key l.dests) (drop l.service-index l.services) ≡ flat_map (λ (service : Service). servers_of service.key l.dests) l.services
