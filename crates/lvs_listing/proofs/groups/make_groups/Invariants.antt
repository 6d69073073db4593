use Rattle.std.proofs.Common.{◌≡◌, [], length}
use Rattle.lvs_listing.specs.Grouped.{AreGrouped}
use Rattle.lvs_listing.proofs.groups.make_groups.Given as goal

abbrev pub invariant-loop : goal.invariant-loop
invariant-loop l = record {
  count : length l.groups.items ≡ l.counter;
  empty : AreGrouped l.groups.items [];
}
