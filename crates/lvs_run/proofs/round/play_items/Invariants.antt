use Rattle.std.proofs.Common.{◌≡◌, ◌+◌, ◌≤◌, ◌^◌, ◌++◌, map, length}
use Rattle.std.specs.Vec.Iter.{into_iter_items}
use Rattle.lvs_model.specs.Step.{AreInRange}
use Rattle.lvs_model.specs.Books.{IsRun, placed_of}
use Rattle.lvs_script.specs.Placing.{items_placed}
use Rattle.lvs_run.proofs.round.play_items.Given as goal

abbrev pub invariant-loop-placed : goal.invariant-loop-placed
invariant-loop-placed l = record {
  can : (goal.iterator-loop-placed).can_next l.placed-iterator;
  finite : (goal.iterator-loop-placed).is_finite l.placed-iterator;
  whole : map placed_of l.acts.items ++ into_iter_items l.placed-iterator ≡ l.fn.items.items;
  run : IsRun l.initial.director.state l.acts.items l.director.state;
  in_range : AreInRange (items_placed (into_iter_items l.placed-iterator));
  young : l.director.steps + length (into_iter_items l.placed-iterator) ≤ 2 ^ 62;
  steps : l.director.steps + length (into_iter_items l.placed-iterator) ≡ l.initial.director.steps + length l.fn.items.items;
}
