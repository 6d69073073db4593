use Rattle.std.proofs.Common.{rules, ◌≡◌, Some, None}
use Rattle.std.specs.List.{position}
use Rattle.lvs_model.specs.Lookups.{has_template_id}
use Rattle.lvs_model.proofs.ListLemmas.{update_missed}
use Rattle.lvs_flat.proofs.Updates.{update_put}
use Rattle.lvs_flat.proofs.templates.put.Goals as goal

pub returns-in-Some : goal.returns-in-Some
returns-in-Some c =
    let found : position (has_template_id c.args.template.id) c.args.templates.now ≡ Some c.in-Some.place = search rules in
    update_put (has_template_id c.args.template.id) c.args.template c.args.templates.now c.in-Some.place found

pub returns-in_default : goal.returns-in_default
returns-in_default c =
    let none : position (has_template_id c.args.template.id) c.args.templates.now ≡ None = search rules in
    update_missed (has_template_id c.args.template.id) (λ _. c.args.template) c.args.templates.now none
