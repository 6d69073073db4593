use Rattle.std.specs.Prelude.{◌≡◌, map, drop}
use Rattle.lvs_board.specs.Endings.{CanLessen, lessens_row}
use Rattle.lvs_board.proofs.leaving.leave_templates.Given as goal

-- those that are left can leave, and with them all have left
abbrev pub invariant-loop-e : goal.invariant-loop-e
invariant-loop-e l = record {
  can : CanLessen (drop l.e-index l.due) l.templates.rows;
  left : map (lessens_row (drop l.e-index l.due)) l.templates.rows ≡ map (lessens_row l.due) l.fn.templates.rows;
  spare : l.templates.spare ≡ l.fn.templates.spare;
}
