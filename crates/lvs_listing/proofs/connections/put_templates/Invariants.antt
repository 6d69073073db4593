use Rattle.std.proofs.Common.{◌≡◌, ◌++◌, drop}
use Rattle.lvs_model.specs.Listings.{template_lines}
use Rattle.lvs_listing.proofs.connections.put_templates.Given as goal

abbrev pub invariant-loop-template : goal.invariant-loop-template
invariant-loop-template l = l.out.items ++ template_lines l.now (drop l.template-index l.templates) ≡ l.initial.out.items ++ template_lines l.now l.templates
