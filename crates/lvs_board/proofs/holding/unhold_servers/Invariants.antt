use Rattle.std.specs.Prelude.{◌≡◌, map, drop}
use Rattle.lvs_board.specs.Held.{CanUnhold, unholds_row}
use Rattle.lvs_board.proofs.holding.unhold_servers.Given as goal

-- those that are left can let go, and with them all have let go
abbrev pub invariant-loop-t : goal.invariant-loop-t
invariant-loop-t l = record {
  can : CanUnhold (drop l.t-index l.gone) l.dests.rows;
  left : map (unholds_row (drop l.t-index l.gone)) l.dests.rows ≡ map (unholds_row l.gone) l.fn.dests.rows;
  next : l.dests.next ≡ l.fn.dests.next;
}
