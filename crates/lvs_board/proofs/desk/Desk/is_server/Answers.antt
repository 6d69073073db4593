use Rattle.std.proofs.Common.{◌∙◌, ap, is_some}
use Rattle.lvs_model.specs.Lookups.{is_server_at}
use Rattle.lvs_board.specs.Desks.{state_of}
use Rattle.lvs_board.proofs.Known.{some_found}
use Rattle.lvs_board.proofs.desk.Desk.is_server.Goals as goal

pub returns : goal.returns
returns g c = c.is_some.ensures ∙ ap is_some c.server_at.ensures.server ∙ some_found (is_server_at c.args.key c.args.addr c.args.port) (state_of g.W.Whole.whole c.args.self.now).dests
