use Rattle.std.specs.Prelude.{◌≡◌, map, drop}
use Rattle.lvs_board.specs.Endings.{CanLeave, ends_row}
use Rattle.lvs_board.proofs.leaving.leave_servers.Given as goal

-- those that are left can leave, and with them all have left
abbrev pub invariant-loop-e : goal.invariant-loop-e
invariant-loop-e l = record {
  can : CanLeave (drop l.e-index l.due) l.dests.rows;
  left : map (ends_row (drop l.e-index l.due)) l.dests.rows ≡ map (ends_row l.due) l.fn.dests.rows;
  next : l.dests.next ≡ l.fn.dests.next;
}
