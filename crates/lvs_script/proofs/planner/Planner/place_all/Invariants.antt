use Rattle.std.proofs.Common.{◌≡◌}
use Rattle.std.specs.Vec.Iter.{into_iter_items}
use Rattle.lvs_script.specs.Planning.{with_items}
use Rattle.lvs_script.proofs.planner.Planner.place_all.Given as goal

abbrev pub invariant-loop-item : goal.invariant-loop-item
invariant-loop-item l = record {
  can : (goal.iterator-loop-item).can_next l.item-iterator;
  finite : (goal.iterator-loop-item).is_finite l.item-iterator;
  whole : with_items l.self (into_iter_items l.item-iterator) ≡ with_items l.fn.self l.fn.items.items;
}
