use Rattle.std.proofs.Common.{◌≡◌, ◌++◌, map}
use Rattle.std.specs.Vec.Iter.{into_iter_items}
use Rattle.lvs_check.specs.Queues.{whole_queue}
use Rattle.lvs_check.proofs.queue.queues_of.Given as goal

abbrev pub invariant-loop-items : goal.invariant-loop-items
invariant-loop-items l = record {
  can : (goal.iterator-loop-items).can_next l.items-iterator;
  finite : (goal.iterator-loop-items).is_finite l.items-iterator;
  whole : l.queues.items ++ map whole_queue (into_iter_items l.items-iterator) ≡ map whole_queue l.fn.lists.items;
}
