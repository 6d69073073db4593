use Rattle.std.proofs.Common.{◌≡◌, drop}
use Rattle.lvs_model.specs.Lookups.{dest_at}
use Rattle.lvs_flat.proofs.dests.get_dest.Given as goal

abbrev pub invariant-loop-d : goal.invariant-loop-d
invariant-loop-d l = dest_at l.id (drop l.d-index l.dests) ≡ dest_at l.id l.dests
