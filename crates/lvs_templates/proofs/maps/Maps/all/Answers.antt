use Rattle.std.proofs.Common.{rules}
use Rattle.std.proofs.lemmas.List.Sorted.{IsNonDecreasingBy-from_sort_by_key}
use Rattle.lvs_templates.specs.Maps.{in_order}
use Rattle.lvs_templates.proofs.Leaving.{are_distinct}
use Rattle.lvs_templates.proofs.Gathered.{template_number, sorted_all}
use Rattle.lvs_templates.proofs.maps.Maps.all.Goals as goal

pub returns-in_err-all-clause-apart : goal.returns-in_err-all-clause-apart
returns-in_err-all-clause-apart c = are_distinct (in_order c.args.self.now.rows.entries) c.args.self.now.ids.entries c.requires.store

pub returns-clause-apart : goal.returns-clause-apart
returns-clause-apart c = are_distinct (in_order c.args.self.now.rows.entries) c.args.self.now.ids.entries c.requires.store

pub returns-clause-templates : goal.returns-clause-templates
returns-clause-templates c =
    sorted_all c.args.self.now.rows.entries c.args.self.now.ids.entries c.requires.unique c.requires.store c.in_ok-all.all.items c.sort_unstable_by_key.new.self.items
    c.in_ok-all.ensures c.sort_unstable_by_key.ensures.permutation (IsNonDecreasingBy-from_sort_by_key template_number _ c.sort_unstable_by_key.ensures.sorted (λ a r q k. search rules))
