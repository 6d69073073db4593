use Rattle.std.specs.Prelude.{◌≡◌, ◌≤◌, ◌+◌, length}
use Rattle.lvs_dests.specs.Rows.{candidates_of}
use Rattle.lvs_board.specs.Removals.{left_in}
use Rattle.lvs_board.proofs.removing.take_all.Given as goal

-- at least as many have left as were counted, and the others leave as at first
abbrev pub invariant-loop : goal.invariant-loop
invariant-loop l = record {
  fewer : length (candidates_of l.key l.dests.rows) + l.counter ≤ length (candidates_of l.key l.fn.dests.rows);
  same : left_in l.key l.dests.rows ≡ left_in l.key l.fn.dests.rows;
  next : l.dests.next ≡ l.fn.dests.next;
}
