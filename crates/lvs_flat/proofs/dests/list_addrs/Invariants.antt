use Rattle.std.proofs.Common.{◌≡◌, ◌≤◌, ◌++◌, drop, length, map, vec_len, vec_capacity}
use Rattle.lvs_types.specs.declared.dest.Dest.{Dest}
use Rattle.lvs_model.specs.Lookups.{servers_of}
use Rattle.lvs_flat.proofs.dests.list_addrs.Given as goal

abbrev pub invariant-loop-d : goal.invariant-loop-d
invariant-loop-d l = record {
  so_far : l.addrs.items ++ map (λ (d : Dest). d.spec.addr) (servers_of l.key (drop l.d-index l.dests)) ≡ map (λ (d : Dest). d.spec.addr) (servers_of l.key l.dests);
  fewer : vec_len l.addrs ≤ l.d-index;
  room : length l.dests ≤ vec_capacity l.addrs;
}
