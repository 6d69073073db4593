use Rattle.std.proofs.Common.{◌≡◌, ◌++◌, ◌∷◌, map, Vec}
use Rattle.std.specs.Vec.Iter.{into_iter_items}
use Rattle.std.specs.declared.alloc.Global.{Global}
use Rattle.lvs_types.specs.declared.item.Item.{Item}
use Rattle.lvs_script.proofs.planner.Planner.finish.Given as goal

abbrev pub invariant-loop-worker : goal.invariant-loop-worker
invariant-loop-worker l = record {
  can : (goal.iterator-loop-worker).can_next l.worker-iterator;
  finite : (goal.iterator-loop-worker).is_finite l.worker-iterator;
  whole : l.lists.items ++ map (λ (list : Vec Item Global). list.items) (into_iter_items l.worker-iterator) ≡ l.fn.clock.items ∷ l.fn.self.control ∷ l.fn.self.sync ∷ l.fn.self.workers;
}
