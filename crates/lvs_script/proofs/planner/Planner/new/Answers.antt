use Rattle.std.proofs.Common.{◌≡◌, ◌∙◌, ap, List, length, arith}
use Rattle.lvs_types.specs.declared.item.Item.{Item}
use Rattle.lvs_script.specs.Planning.{lists_in}
use Rattle.lvs_script.proofs.Planned.{length_empty}
use Rattle.lvs_script.proofs.planner.Planner.new.Goals as goal

pub invariant_of-result : goal.invariant_of-result
invariant_of-result c =
    let count : length (lists_in c.in_ok-empty_workers.field-0) ≡ c.args.workers = ap (λ (lists : List (List Item)). length lists) c.in_ok-empty_workers.ensures ∙ length_empty c.args.workers in
    record { some = omega arith; few = omega arith }
