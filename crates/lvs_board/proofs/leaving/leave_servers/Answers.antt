use Rattle.std.proofs.Common.{ℕ, List, ◌+◌, ◌∙◌, ap, sym, subst, map, drop}
use Rattle.lvs_types.specs.declared.dest.DestRow.{DestRow}
use Rattle.lvs_dests.specs.Rows.{DestsSeen}
use Rattle.lvs_board.specs.Endings.{CanLeave, ends_row}
use Rattle.lvs_board.proofs.Sweeps.{next_leaves, all_left}
use Rattle.lvs_board.proofs.leaving.leave_servers.Goals as goal

abbrev seen_as : List DestRow → ℕ → DestsSeen
seen_as rows next = record { rows = rows; next = next }

pub loop-e-preserved : goal.loop-e-preserved
loop-e-preserved c =
    let rows = ap (λ (seen : DestsSeen). seen.rows) c.leave_server.ensures in
    let next = next_leaves c.args.due.now c.loop-e.e-index _ c.loop-e.dests.rows (map (ends_row c.args.due.now) c.args.dests.now.rows) c.loop-e-test.true c.loop-e.invariant.can c.loop-e.invariant.left in
    record {
      can = subst (CanLeave (drop (c.loop-e.e-index + 1) c.args.due.now)) (sym rows) next.0;
      left = ap (map (ends_row (drop (c.loop-e.e-index + 1) c.args.due.now))) rows ∙ next.1;
      next = ap (λ (seen : DestsSeen). seen.next) c.leave_server.ensures ∙ c.loop-e.invariant.next;
    }

pub returns : goal.returns
returns c =
    ap (λ (rows : List DestRow). seen_as rows c.loop-e.dests.next) (all_left c.args.due.now c.loop-e.e-index c.loop-e.dests.rows (map (ends_row c.args.due.now) c.args.dests.now.rows) c.loop-e-test.false c.loop-e.invariant.left)
    ∙ ap (seen_as (map (ends_row c.args.due.now) c.args.dests.now.rows)) c.loop-e.invariant.next
