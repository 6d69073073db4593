use Rattle.std.proofs.Common.{◌∙◌, ap, sym, List, ℕ, [], ◌∷◌, ◌++◌, Vec, map}
use Rattle.std.specs.declared.alloc.Global.{Global}
use Rattle.std.proofs.lemmas.List.{map-append}
use Rattle.lvs_types.specs.declared.item.Item.{Item}
use Rattle.lvs_model.specs.Plans.{numbers_from}
use Rattle.lvs_script.proofs.Numbers.{map_more}
use Rattle.lvs_script.proofs.planner.empty_workers.Goals as goal

abbrev items_in : Vec Item Global → List Item
items_in list = list.items

abbrev none_for : ℕ → List Item
none_for worker = []

pub loop-preserved : goal.loop-preserved
loop-preserved c =
    ap (map items_in) c.in_ok-push.ensures.items
    ∙ map-append items_in c.loop.lists.items (c.new.result ∷ [])
    ∙ ap (λ (lists : List (List Item)). lists ++ c.new.result.items ∷ []) c.loop.invariant
    ∙ ap (λ (list : List Item). map none_for (numbers_from 0 c.loop.counter) ++ list ∷ []) c.new.ensures.items
    ∙ sym (map_more none_for c.loop.counter)
