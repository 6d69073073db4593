use Rattle.std.proofs.Common.{◌∙◌, ap, is_some}
use Rattle.lvs_model.specs.Lookups.{has_service_key}
use Rattle.lvs_board.proofs.Known.{some_found}
use Rattle.lvs_board.proofs.desk.Desk.is_service.Goals as goal

pub returns : goal.returns
returns g c = c.is_some.ensures ∙ ap is_some c.service.ensures ∙ some_found (has_service_key c.args.key) c.args.self.now.services
