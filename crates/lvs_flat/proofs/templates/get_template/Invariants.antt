use Rattle.std.proofs.Common.{◌≡◌, drop}
use Rattle.lvs_model.specs.Lookups.{template_of_id}
use Rattle.lvs_flat.proofs.templates.get_template.Given as goal

abbrev pub invariant-loop-t : goal.invariant-loop-t
invariant-loop-t l = template_of_id l.id (drop l.t-index l.templates) ≡ template_of_id l.id l.templates
