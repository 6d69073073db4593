use Rattle.std.proofs.Common.{rules}
use Rattle.std.proofs.lemmas.List.Sorted.{IsNonDecreasingBy-from_sort_by_key}
use Rattle.lvs_templates.specs.Rows.{leaves}
use Rattle.lvs_templates.proofs.Gathered.{template_number, sorted_some}
use Rattle.lvs_templates.proofs.maps.Maps.leaving.Goals as goal

pub returns : goal.returns
returns c =
    sorted_some c.args.self.now.rows.entries c.args.self.now.ids.entries c.requires.unique c.requires.store (leaves c.args.now) c.in_ok-gone.gone.items c.sort_unstable_by_key.new.self.items
    c.in_ok-gone.ensures c.sort_unstable_by_key.ensures.permutation (IsNonDecreasingBy-from_sort_by_key template_number _ c.sort_unstable_by_key.ensures.sorted (λ a r q k. search rules))
