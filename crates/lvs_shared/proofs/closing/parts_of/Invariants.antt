use Rattle.std.proofs.Common.{◌≡◌, ◌≤◌, ◌+◌, length, vec_len, vec_capacity}
use Rattle.std.specs.Vec.Iter.{into_iter_items}
use Rattle.lvs_shared.specs.Rounds.{AreFrom, AreHomes}
use Rattle.lvs_shared.proofs.closing.parts_of.Given as goal

abbrev pub invariant-loop-chamber : goal.invariant-loop-chamber
invariant-loop-chamber g l = record {
  can : (goal.iterator-loop-chamber g).can_next l.chamber-iterator;
  finite : (goal.iterator-loop-chamber g).is_finite l.chamber-iterator;
  homes : AreHomes g.N.RoundName.book.id g.N.RoundName.book.origin 0 l.buckets.items l.passes.items;
  order : AreFrom (length l.buckets.items) (into_iter_items l.chamber-iterator);
  len : length l.buckets.items + length (into_iter_items l.chamber-iterator) ≡ vec_len l.fn.chambers;
  count : vec_len l.buckets ≡ length l.buckets.items;
  also : vec_len l.passes ≡ length l.buckets.items;
  room : vec_len l.fn.chambers ≤ vec_capacity l.buckets;
  space : vec_len l.fn.chambers ≤ vec_capacity l.passes;
  same : vec_capacity l.passes ≡ vec_capacity l.initial.passes;
}
