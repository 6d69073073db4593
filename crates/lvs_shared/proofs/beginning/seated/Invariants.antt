use Rattle.std.proofs.Common.{◌≡◌, ◌≤◌, ◌+◌, ◌++◌, List, length, vec_len, vec_capacity}
use mathlib.Core.List.{reverse}
use Rattle.lvs_book.specs.Passes.{opened}
use Rattle.lvs_types.specs.declared.item.Item.{Item}
use Rattle.lvs_shared.specs.Openings.{begun}
use Rattle.lvs_shared.specs.Seats.{new_seats}
use Rattle.lvs_shared.proofs.beginning.seated.Given as goal

abbrev pub invariant-loop-list : goal.invariant-loop-list
invariant-loop-list g l = record {
  all : new_seats g.N.RoundName.book.id g.N.RoundName.book.origin 0 l.fn.lists.items ≡ new_seats g.N.RoundName.book.id g.N.RoundName.book.origin 0 l.lists.items ++ reverse l.seats.items;
  lists : (done : List (List Item)) × (g.N.RoundName.book.origin.plan.lists ≡ l.lists.items ++ done);
  passes : l.passes.items ≡ opened g.N.RoundName.book.id g.N.RoundName.book.origin 0 ((begun g.N.RoundName.book.origin).buckets + length l.lists.items);
  len : vec_len l.seats + vec_len l.lists ≡ vec_len l.fn.lists;
  room : vec_len l.fn.lists ≤ vec_capacity l.seats;
}

abbrev pub decreases-loop-list : goal.decreases-loop-list
decreases-loop-list g l = vec_len l.lists
