use Rattle.std.proofs.Common.{ℕ, List, sym, ap}
use Rattle.lvs_types.specs.declared.dest.DestRow.{DestRow}
use Rattle.lvs_dests.specs.Rows.{DestsSeen}
use Rattle.lvs_board.proofs.Holds.{none_unholds}
use Rattle.lvs_board.proofs.holding.unhold_server.Goals as goal

abbrev seen_as : ℕ → List DestRow → DestsSeen
seen_as next rows = record { rows = rows; next = next }

pub returns-in_default : goal.returns-in_default
returns-in_default c = ap (seen_as c.args.dests.now.next) (sym (none_unholds c.args.server c.args.dests.now.rows c.in_default.is))
