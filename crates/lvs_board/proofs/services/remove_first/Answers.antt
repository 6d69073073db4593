use Rattle.std.proofs.Common.{◌≡◌, ◌∙◌, ◌≤◌, ◌-◌, List, Some, ap, sym, subst, length}
use Rattle.std.specs.List.{slice_get}
use Rattle.lvs_types.specs.declared.service.Service.{Service}
use Rattle.lvs_board.proofs.FirstGone.{first_gone}
use Rattle.lvs_board.proofs.services.remove_first.Goals as goal

pub returns-in-Some : goal.returns-in-Some
returns-in-Some c =
    let is : slice_get c.args.services.now 0 ≡ Some c.in-Some.first = ap (λ (xs : List Service). slice_get xs 0) (sym c.list.ensures.services) ∙ sym c.first.ensures.value ∙ sym c.copied.ensures ∙ c.in-Some.is in
    subst (λ (xs : List Service). length xs ≤ length c.args.services.now - 1) (sym c.remove.ensures.services) (first_gone c.args.services.now c.in-Some.first is)
