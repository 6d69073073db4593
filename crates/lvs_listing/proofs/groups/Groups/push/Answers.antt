use Rattle.std.proofs.Common.{rules, arith, ◌≡◌, ◌++◌, ◌∷◌, [], List, Some, slice_get, sym, subst}
use Rattle.std.proofs.lemmas.Grind.{common_steps}
use Rattle.std.proofs.lemmas.Option.{gets}
use Rattle.lvs_types.specs.declared.dest.DestRow.{DestRow}
use Rattle.lvs_listing.specs.Grouped.{AreGrouped}
use Rattle.lvs_listing.proofs.Grouping.{grouped_put}
use Rattle.lvs_listing.proofs.groups.Groups.push.Goals as goal

pub returns-clause-row : goal.returns-clause-row
returns-clause-row c = λ rows grouped.
    let groups = c.self.inside.groups.items in
    let there : slice_get groups c.group_of-at.result ≡ Some c.index_mut.result.now = grind (arith, common_steps, gets) in
    let added : c.push.new.self ≡ c.index_mut.result.now ++ c.args.row ∷ [] = search rules in
    grouped_put groups rows c.args.row c.group_of-at.result c.index_mut.result.now c.push.new.self (subst (λ (those : List (List DestRow)). AreGrouped those rows) (sym c.self.view_is) grouped) (omega arith) there added (grind (arith, common_steps))
