use Rattle.std.proofs.Common.{◌≡◌, ◌∙◌, sym, subst, Option, Some}
use Rattle.std.specs.Prelude.{IfSome}
use Rattle.lvs_types.specs.declared.template.Template.{Template}
use Rattle.lvs_model.specs.Lookups.{template_at}
use Rattle.lvs_templates.specs.Rows.{templates_of}
use Rattle.lvs_board.proofs.Templating.{key_gives}
use Rattle.lvs_board.proofs.desk.Desk.template.Goals as goal

pub returns-clause-gives : goal.returns-clause-gives
returns-clause-gives g c =
    let ts = templates_of c.args.self.now.templates.rows in
    subst (λ (o : Option Template). IfSome o (λ t. template_at t.key ts ≡ Some t)) (sym (c.copied.ensures ∙ c.find.ensures.template)) (key_gives c.args.key.now ts)
