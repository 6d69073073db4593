use Rattle.std.proofs.Common.{◌≡◌, drop}
use Rattle.std.specs.List.{find}
use Rattle.lvs_model.specs.Lookups.{is_server_at}
use Rattle.lvs_flat.proofs.dests.find_at.Given as goal

abbrev pub invariant-loop-d : goal.invariant-loop-d
invariant-loop-d l = find (is_server_at l.key l.addr l.port) (drop l.d-index l.dests) ≡ find (is_server_at l.key l.addr l.port) l.dests
