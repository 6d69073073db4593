use Rattle.std.proofs.Common.{◌≡◌, ◌≤◌, ◌+◌, ◌++◌, length, vec_len, vec_capacity}
use Rattle.std.specs.Vec.Iter.{into_iter_items}
use Rattle.lvs_shared.specs.Seats.{passes_in, AreSeated, AreSeats}
use Rattle.lvs_shared.proofs.closing.passes_of.Given as goal

abbrev pub invariant-loop-seat : goal.invariant-loop-seat
invariant-loop-seat g l = record {
  can : (goal.iterator-loop-seat g).can_next l.seat-iterator;
  finite : (goal.iterator-loop-seat g).is_finite l.seat-iterator;
  whole : l.yielded ++ into_iter_items l.seat-iterator ≡ l.fn.seats.items;
  seated : AreSeated g.N.RoundName.book.id g.N.RoundName.book.origin 0 l.yielded;
  passes : l.passes.items ≡ l.initial.passes.items ++ passes_in l.yielded;
  order : AreSeats (length l.yielded) (length g.N.RoundName.book.origin.plan.lists) (into_iter_items l.seat-iterator);
  room : vec_len l.passes + length (into_iter_items l.seat-iterator) ≤ vec_capacity l.passes;
}
