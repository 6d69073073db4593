use Rattle.std.proofs.Common.{rules}
use Rattle.lvs_model.specs.Lookups.{has_service_key}
use Rattle.lvs_board.proofs.Known.{some_found}
use Rattle.lvs_board.proofs.lookups.is_known.Goals as goal

pub returns : goal.returns
returns c =
    let there = some_found (has_service_key c.args.key) c.args.services.now in
    search (rules, there)
