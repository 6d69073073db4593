use Rattle.std.proofs.Common.{◌≡◌, drop}
use Rattle.lvs_model.specs.Lookups.{service_at}
use Rattle.lvs_flat.proofs.services.find_key.Given as goal

abbrev pub invariant-loop-s : goal.invariant-loop-s
invariant-loop-s l = service_at l.key (drop l.s-index l.services) ≡ service_at l.key l.services
