use Rattle.std.proofs.Common.{◌≡◌, ◌++◌, drop, not}
use Rattle.std.specs.List.{filter}
use Rattle.lvs_types.specs.declared.dest.Dest.{Dest}
use Rattle.lvs_flat.proofs.snapshot.list_trashed.Given as goal

abbrev pub invariant-loop-d : goal.invariant-loop-d
invariant-loop-d l = l.trashed.items ++ filter (λ (d : Dest). not d.live) (drop l.d-index l.dests) ≡ filter (λ (d : Dest). not d.live) l.dests
