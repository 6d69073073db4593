use Rattle.std.proofs.Common.{sym}
use Rattle.lvs_board.proofs.Ones.{none_more}
use Rattle.lvs_board.proofs.coming.come_to_template.Goals as goal

pub returns-in_default-clause-rows : goal.returns-in_default-clause-rows
returns-in_default-clause-rows c = sym (none_more c.args.e.now c.args.templates.now.rows c.in_default.is)
