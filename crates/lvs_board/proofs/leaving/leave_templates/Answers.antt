use Rattle.std.proofs.Common.{◌+◌, ◌∙◌, ap, sym, subst, map, drop}
use Rattle.lvs_board.specs.Endings.{CanLessen, lessens_row}
use Rattle.lvs_board.proofs.Lessens.{next_lessens, all_less}
use Rattle.lvs_board.proofs.leaving.leave_templates.Goals as goal

pub loop-e-preserved : goal.loop-e-preserved
loop-e-preserved c =
    let next = next_lessens c.args.due.now c.loop-e.e-index _ c.loop-e.templates.rows (map (lessens_row c.args.due.now) c.args.templates.now.rows) c.loop-e-test.true c.loop-e.invariant.can c.loop-e.invariant.left in
    record {
      can = subst (CanLessen (drop (c.loop-e.e-index + 1) c.args.due.now)) (sym c.leave_template.ensures.rows) next.0;
      left = ap (map (lessens_row (drop (c.loop-e.e-index + 1) c.args.due.now))) c.leave_template.ensures.rows ∙ next.1;
      spare = c.leave_template.ensures.spare ∙ c.loop-e.invariant.spare;
    }

pub returns-clause-rows : goal.returns-clause-rows
returns-clause-rows c = all_less c.args.due.now c.loop-e.e-index c.loop-e.templates.rows (map (lessens_row c.args.due.now) c.args.templates.now.rows) c.loop-e-test.false c.loop-e.invariant.left
