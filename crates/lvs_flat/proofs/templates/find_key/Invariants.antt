use Rattle.std.proofs.Common.{◌≡◌, drop}
use Rattle.lvs_model.specs.Lookups.{template_at}
use Rattle.lvs_flat.proofs.templates.find_key.Given as goal

abbrev pub invariant-loop-t : goal.invariant-loop-t
invariant-loop-t l = template_at l.key (drop l.t-index l.templates) ≡ template_at l.key l.templates
