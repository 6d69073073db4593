use Rattle.std.proofs.Common.{◌∙◌, ◌++◌, ◌∷◌, [], List, ap, sym, subst, arith}
use Rattle.std.proofs.lemmas.Grind.{common_steps}
use Rattle.lvs_types.specs.declared.dest.DestRow.{DestRow}
use Rattle.lvs_listing.specs.Grouped.{AreGrouped}
use Rattle.lvs_listing.proofs.Grouping.{grouped_more, grouped_none}
use Rattle.lvs_listing.proofs.groups.make_groups.Goals as goal

pub loop-init : goal.loop-init
loop-init c = record {
  count = grind (arith, common_steps);
  empty = subst (λ (groups : List (List DestRow)). AreGrouped groups []) (sym c.in_ok-groups.ensures.items) grouped_none;
}

pub loop-preserved : goal.loop-preserved
loop-preserved c = record {
  count = grind (arith, common_steps);
  empty =
      subst (λ (groups : List (List DestRow)). AreGrouped groups []) (sym (c.in_ok-push.ensures.items ∙ ap (λ (group : List DestRow). c.loop.groups.items ++ group ∷ []) c.new.ensures))
      (grouped_more c.loop.groups.items c.loop.invariant.empty);
}
