use Rattle.std.proofs.Common.{◌≡◌, drop, None}
use Rattle.lvs_model.specs.Lookups.{servers_of}
use Rattle.lvs_model.specs.Edits.{server_before}
use Rattle.lvs_flat.proofs.placing.find_before.Given as goal

abbrev pub invariant-loop-d : goal.invariant-loop-d
invariant-loop-d l = server_before l.id l.previous (servers_of l.key (drop l.d-index l.dests)) ≡ server_before l.id None (servers_of l.key l.dests)
