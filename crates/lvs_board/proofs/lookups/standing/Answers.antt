use Rattle.std.proofs.Common.{◌∙◌}
use Rattle.lvs_dests.specs.Rows.{dests_of}
use Rattle.lvs_board.proofs.Known.{exactly}
use Rattle.lvs_board.proofs.lookups.standing.Goals as goal

pub returns-clause-server : goal.returns-clause-server
returns-clause-server c = c.serving.ensures.server ∙ exactly c.args.key c.args.addr c.args.port (dests_of c.args.dests.now.rows)
