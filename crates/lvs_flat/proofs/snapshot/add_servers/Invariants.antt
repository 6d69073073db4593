use Rattle.std.proofs.Common.{◌≡◌, ◌++◌, drop}
use Rattle.lvs_model.specs.Lookups.{servers_of}
use Rattle.lvs_flat.proofs.snapshot.add_servers.Given as goal

abbrev pub invariant-loop-d : goal.invariant-loop-d
invariant-loop-d l = l.shown.items ++ servers_of l.key (drop l.d-index l.dests) ≡ l.initial.shown.items ++ servers_of l.key l.dests
