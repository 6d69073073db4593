use Rattle.std.proofs.Common.{◌≡◌, ◌∙◌, ap, sym, [], ◌∷◌, rules, arith}
use Rattle.std.proofs.lemmas.Grind.{common_steps}
use Rattle.std.specs.Vec.Iter.{into_iter_items}
use Rattle.lvs_script.specs.Planning.{Lists, with_items}
use Rattle.lvs_script.proofs.Planned.{items_none, items_append}
use Rattle.lvs_script.proofs.planner.Planner.place_all.Goals as goal

pub loop-item-preserved : goal.loop-item-preserved
loop-item-preserved c =
    let rest : into_iter_items c.loop-item.item-iterator ≡ c.in-Some.item ∷ into_iter_items c.next.new.self = search rules in
    record {
      can = tt;
      finite = tt;
      whole =
          ap (λ (lists : Lists). with_items lists (into_iter_items c.next.new.self)) c.in_ok-place.ensures
          ∙ items_append c.loop-item.self (c.in-Some.item ∷ []) (into_iter_items c.next.new.self)
          ∙ ap (with_items c.loop-item.self) (sym rest)
          ∙ c.loop-item.invariant.whole;
    }

pub returns : goal.returns
returns c =
    let rest : into_iter_items c.loop-item.item-iterator ≡ [] = grind (arith, common_steps) in
    sym (items_none c.loop-item.self) ∙ ap (with_items c.loop-item.self) (sym rest) ∙ c.loop-item.invariant.whole
