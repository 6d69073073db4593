use Rattle.std.proofs.Common.{rules, not}
use Rattle.std.proofs.lemmas.Fn.{filter_same}
use Rattle.lvs_types.specs.declared.template.Template.{Template}
use Rattle.lvs_model.specs.Lookups.{has_template_key}
use Rattle.lvs_flat.proofs.templates.remove.Goals as goal

pub returns-clause-items : goal.returns-clause-items
returns-clause-items c =
    filter_same _ (λ (t : Template). not (has_template_key c.args.key.now t)) _ (λ x b q says. search rules) _ _ c.retain.ensures.filtered
