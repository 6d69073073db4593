use Rattle.std.proofs.Common.{◌∙◌, ap, [], ◌∷◌, ◌++◌, Vec}
use Rattle.std.specs.declared.alloc.Global.{Global}
use Rattle.lvs_types.specs.declared.item.Item.{Item}
use Rattle.lvs_script.proofs.Planned.{item_at}
use Rattle.lvs_script.proofs.planner.push_at.Goals as goal

pub returns-clause-ok : goal.returns-clause-ok
returns-clause-ok c =
    let pushed = c.in_ok-push.ensures.items ∙ ap (λ (list : Vec Item Global). list.items ++ c.args.item ∷ []) c.index_mut.ensures.value in
    item_at c.args.lists.now.items c.args.place c.args.item c.push.new.self c.index_mut.result.now pushed
