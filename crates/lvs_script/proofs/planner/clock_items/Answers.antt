use Rattle.std.proofs.Common.{◌∙◌, ap, sym, List, [], ◌∷◌, ◌++◌}
use Rattle.lvs_types.specs.declared.item.Item.{Item}
use Rattle.lvs_types.specs.declared.item.Item.TheVariants as item
use Rattle.lvs_script.proofs.Numbers.{map_more}
use Rattle.lvs_script.proofs.planner.clock_items.Goals as goal

pub loop-bucket-preserved : goal.loop-bucket-preserved
loop-bucket-preserved c =
    c.in_ok-push.ensures.items
    ∙ ap (λ (items : List Item). items ++ item.Sweep c.loop-bucket.bucket ∷ []) c.loop-bucket.invariant
    ∙ sym (map_more item.Sweep c.loop-bucket.bucket)
