use Rattle.std.proofs.Common.{◌≡◌, ◌++◌, drop}
use Rattle.lvs_board.specs.Shown.{live_rows}
use Rattle.lvs_board.proofs.showing.list_live.Given as goal

-- those that are left still come
abbrev pub invariant-loop-service : goal.invariant-loop-service
invariant-loop-service l = l.rows.items ++ live_rows (drop l.service-index l.services) l.dests.rows ≡ live_rows l.services l.dests.rows
