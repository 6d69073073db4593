use Rattle.std.proofs.Common.{sym}
use Rattle.lvs_board.proofs.Ones.{none_less}
use Rattle.lvs_board.proofs.leaving.leave_template.Goals as goal

pub returns-in_default-clause-rows : goal.returns-in_default-clause-rows
returns-in_default-clause-rows c = sym (none_less c.args.e.now c.args.templates.now.rows c.in_default.is)
