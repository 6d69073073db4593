use Rattle.std.proofs.Common.{◌≡◌, ◌&&◌, drop}
use Rattle.std.specs.List.{find}
use Rattle.lvs_model.specs.Lookups.{is_server_of}
use Rattle.lvs_model.specs.Binding.{serves_at}
use Rattle.lvs_flat.proofs.dests.find_serving.Given as goal

abbrev pub invariant-loop-d : goal.invariant-loop-d
invariant-loop-d l =
    find (λ d. is_server_of l.key d && serves_at l.daddr l.dport l.vport d) (drop l.d-index l.dests) ≡ find (λ d. is_server_of l.key d && serves_at l.daddr l.dport l.vport d) l.dests
