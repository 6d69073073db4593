use Rattle.std.proofs.Common.{◌≡◌, [], ◌++◌, map, vec_len}
use Rattle.lvs_book.specs.Passes.{held_lane}
use Rattle.lvs_book.specs.Steps.{at_rest}
use Rattle.lvs_book.proofs.turnstile.Turnstile.collect.Given as goal

abbrev pub invariant-loop-pass : goal.invariant-loop-pass
invariant-loop-pass g l = record {
  book : l.seat.table_id ≡ l.self.table.shared.table_id;
  out : l.seat.me ≡ (at_rest l.seat.me.0.lanes, []);
  lanes : l.fn.passes.items ≡ l.passes.items ++ map (held_lane l.self.table.shared.table_id) l.seat.me.0.lanes;
}

abbrev pub decreases-loop-pass : goal.decreases-loop-pass
decreases-loop-pass g l = vec_len l.passes
