use Rattle.std.proofs.Common.{◌≡◌, take, length, max}
use Rattle.lvs_listing.specs.Grouped.{AreGrouped}
use Rattle.lvs_listing.proofs.groups.Groups.of.Given as goal

abbrev pub invariant-loop-row : goal.invariant-loop-row
invariant-loop-row l = record {
  grouped : AreGrouped l.groups (take l.row-index l.rows);
  count : length l.groups ≡ max l.count 1;
}
