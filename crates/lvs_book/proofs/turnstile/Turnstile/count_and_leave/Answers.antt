use Rattle.std.proofs.Common.{rules, [], sym, ap, subst, ◌∙◌}
use Rattle.lvs_book.specs.Lanes.{grown}
use Rattle.lvs_book.specs.Steps.{at_rest, MayLeave}
use Rattle.lvs_book.proofs.Lanes.{of_grown}
use Rattle.lvs_book.proofs.Counting.{commits}
use Rattle.lvs_book.proofs.Working.{same_last}
use Rattle.lvs_book.proofs.turnstile.Turnstile.count_and_leave.Goals as goal

pub fetch_add-requires : goal.fetch_add-requires
fetch_add-requires g c = (search rules, search rules, commits _ _ _ _ _ _ _ _ c.requires.added)

pub leave-requires-clause-held : goal.leave-requires-clause-held
leave-requires-clause-held g c = let add = c.requires.added in let did = c.fetch_add.ensures.2 in let from = of_grown (g.T.Journal.origin add.0) did.2 c.args.seat.now.me.0.lanes add.8 in
    subst (λ m. MayLeave g.T.Journal.origin g.T.Journal.acts g.T.Journal.names m) (sym did.3) (add.0, add.4, did.4 add.0 add.4, from)

pub returns-clause-out : goal.returns-clause-out
returns-clause-out g c = let did = c.fetch_add.ensures.2 in λ y found a held last. let same = same_last did.1 found did.2 a (sym (did.4 y held) ∙ last) in
    c.leave.ensures.out ∙ ap (λ m. (at_rest m.0.lanes, [])) did.3 ∙ ap (λ x. (at_rest (grown x c.args.seat.now.me.0.lanes), [])) same
