use Rattle.std.proofs.Common.{rules, ◌≡◌, Some, None, refl}
use Rattle.std.specs.List.{position}
use Rattle.lvs_model.specs.Lookups.{has_service_key}
use Rattle.lvs_model.proofs.ListLemmas.{update_missed}
use Rattle.lvs_services.proofs.Updates.{update_by}
use Rattle.lvs_services.proofs.keys.replace.Goals as goal

pub returns-in-Some : goal.returns-in-Some
returns-in-Some c =
    let found : position (has_service_key c.args.service.key) c.args.services.now ≡ Some c.in-Some.place = search rules in
    update_by (has_service_key c.args.service.key) (λ _. c.args.service) c.args.services.now c.in-Some.place c.args.service c.args.service found refl

pub returns-in_default : goal.returns-in_default
returns-in_default c =
    let none : position (has_service_key c.args.service.key) c.args.services.now ≡ None = search rules in
    update_missed (has_service_key c.args.service.key) (λ _. c.args.service) c.args.services.now none
