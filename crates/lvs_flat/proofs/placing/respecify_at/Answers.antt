use Rattle.std.proofs.Common.{rules, ◌≡◌, Some, None}
use Rattle.std.specs.List.{position}
use Rattle.lvs_model.specs.Lookups.{is_server_at}
use Rattle.lvs_model.specs.Edits.{respecified}
use Rattle.lvs_model.proofs.ListLemmas.{update_missed}
use Rattle.lvs_flat.proofs.Updates.{update_by}
use Rattle.lvs_flat.proofs.placing.respecify_at.Goals as goal

pub returns-in-Some : goal.returns-in-Some
returns-in-Some c =
    let found : position (is_server_at c.args.key c.args.spec.now.addr c.args.spec.now.port) c.args.dests.now ≡ Some c.in-Some.place = search rules in
    update_by (is_server_at c.args.key c.args.spec.now.addr c.args.spec.now.port) (respecified c.args.entries.now c.args.spec.now) c.args.dests.now c.in-Some.place _ _ found c.respecify.ensures

pub returns-in_default : goal.returns-in_default
returns-in_default c =
    let none : position (is_server_at c.args.key c.args.spec.now.addr c.args.spec.now.port) c.args.dests.now ≡ None = search rules in
    update_missed (is_server_at c.args.key c.args.spec.now.addr c.args.spec.now.port) (respecified c.args.entries.now c.args.spec.now) c.args.dests.now none
