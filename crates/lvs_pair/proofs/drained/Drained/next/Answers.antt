use Rattle.std.proofs.Common.{◌≡◌, ◌∷◌, [], ◌∙◌, ap, subst}
use Rattle.std.specs.Prelude.{MatchOption}
use Rattle.crossbeam_queue.specs.Passes.{view}
use Rattle.lvs_pair.specs.Sides.{left_of}
use Rattle.lvs_pair.proofs.Drains.{next}
use Rattle.lvs_pair.proofs.Relays.{takes_left_by, holds_left_by}
use Rattle.lvs_pair.proofs.drained.Drained.next.Goals as goal

pub pop_as-requires-clause-rule : goal.pop_as-requires-clause-rule
pop_as-requires-clause-rule g c = (takes_left_by _ _ c.self.invariant.1, holds_left_by _ _ c.self.invariant.1)

pub invariant_of-self : goal.invariant_of-self
invariant_of-self g c = let was = c.self.invariant in let n = next _ _ _ was.1 was.2 c.pop_as.ensures.rule in
    ((c.pop_as.ensures.queue.0 ∙ was.0.0, c.pop_as.ensures.queue.2 ∙ was.0.1), n.0, n.1)

pub returns-clause-left : goal.returns-clause-left
returns-clause-left g c = let was = c.self.invariant in let after = left_of (view c.pop_as.new.pass) in
    subst (λ l. MatchOption c.pop_as.result ((l ≡ []) × (after ≡ [])) (λ x. l ≡ x ∷ after)) (ap (λ d. d.left) c.self.view_is) (next _ _ _ was.1 was.2 c.pop_as.ensures.rule).2
