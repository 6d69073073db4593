use Rattle.std.proofs.Common.{ℕ, List, ◌+◌, ◌∙◌, ap, sym, subst, map, drop}
use Rattle.lvs_types.specs.declared.dest.DestRow.{DestRow}
use Rattle.lvs_dests.specs.Rows.{DestsSeen}
use Rattle.lvs_board.specs.Held.{CanUnhold, unholds_row}
use Rattle.lvs_board.proofs.Holds.{next_unholds, all_unheld}
use Rattle.lvs_board.proofs.holding.unhold_servers.Goals as goal

abbrev seen_as : List DestRow → ℕ → DestsSeen
seen_as rows next = record { rows = rows; next = next }

pub loop-t-preserved : goal.loop-t-preserved
loop-t-preserved c =
    let rows = ap (λ (seen : DestsSeen). seen.rows) c.unhold_server.ensures in
    let next = next_unholds c.args.gone.now c.loop-t.t-index _ c.loop-t.dests.rows (map (unholds_row c.args.gone.now) c.args.dests.now.rows) c.loop-t-test.true c.loop-t.invariant.can c.loop-t.invariant.left in
    record {
      can = subst (CanUnhold (drop (c.loop-t.t-index + 1) c.args.gone.now)) (sym rows) next.0;
      left = ap (map (unholds_row (drop (c.loop-t.t-index + 1) c.args.gone.now))) rows ∙ next.1;
      next = ap (λ (seen : DestsSeen). seen.next) c.unhold_server.ensures ∙ c.loop-t.invariant.next;
    }

pub returns : goal.returns
returns c =
    ap (λ (rows : List DestRow). seen_as rows c.loop-t.dests.next) (all_unheld c.args.gone.now c.loop-t.t-index c.loop-t.dests.rows (map (unholds_row c.args.gone.now) c.args.dests.now.rows) c.loop-t-test.false c.loop-t.invariant.left)
    ∙ ap (seen_as (map (unholds_row c.args.gone.now) c.args.dests.now.rows)) c.loop-t.invariant.next
