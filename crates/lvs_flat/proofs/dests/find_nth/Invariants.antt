use Rattle.std.proofs.Common.{◌≡◌, drop, slice_get}
use Rattle.lvs_model.specs.Lookups.{servers_of}
use Rattle.lvs_flat.proofs.dests.find_nth.Given as goal

abbrev pub invariant-loop-d : goal.invariant-loop-d
invariant-loop-d l =
    slice_get (servers_of l.key (drop l.d-index l.dests)) l.before ≡ slice_get (servers_of l.key l.dests) l.place
