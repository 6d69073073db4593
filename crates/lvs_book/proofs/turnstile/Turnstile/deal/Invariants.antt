use Rattle.std.proofs.Common.{◌≡◌, ◌-◌, ◌≤◌, [], vec_capacity, vec_len}
use Rattle.lvs_book.specs.Lanes.{new_lanes}
use Rattle.lvs_book.specs.Steps.{at_rest}
use Rattle.lvs_book.specs.Passes.{opened}
use Rattle.lvs_book.proofs.turnstile.Turnstile.deal.Given as goal

abbrev pub invariant-loop-dealt : goal.invariant-loop-dealt
invariant-loop-dealt g l = let o = g.T.Journal.origin l.self.table.shared.key.opened.value in record {
  book : l.seat.table_id ≡ l.fn.seat.table_id;
  seat : l.seat.me ≡ (at_rest (new_lanes o l._dealt (l.count - l._dealt)), []);
  dealt : l.passes.items ≡ opened l.fn.seat.table_id o 0 l._dealt;
  len : vec_len l.passes ≡ l._dealt;
  room : l.count ≤ vec_capacity l.passes;
}
