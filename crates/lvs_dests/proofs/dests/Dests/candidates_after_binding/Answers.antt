use Rattle.std.proofs.Common.{◌≡◌, ◌∙◌, ap, sym, subst, IfOk}
use Rattle.lvs_dests.specs.Rows.{DestsSeen, bound, look_bound, candidates_of}
use Rattle.lvs_dests.proofs.Tied.{change_missed, counted_there, counted_for, bound_keeps, bound_id}
use Rattle.lvs_dests.proofs.dests.Dests.candidates_after_binding.Goals as goal

pub candidates_with-requires-clause-there : goal.candidates_with-requires-clause-there
candidates_with-requires-clause-there c =
    counted_there (bound c.args.active) (bound_keeps c.args.active) (bound_id c.args.active) c.args.id c.args.self.now c.in-Some.row c.after_binding.result c.in-Some.ensures.row (c.after_binding.ensures ∙ ap look_bound c.raise-row.ensures)

pub returns-in-Some : goal.returns-in-Some
returns-in-Some c =
    counted_for (bound c.args.active) (bound_keeps c.args.active) (bound_id c.args.active) c.args.id c.args.self.now c.in-Some.row c.after_binding.result c.in-Some.ensures.row (c.after_binding.ensures ∙ ap look_bound c.raise-row.ensures)
    (λ (seen : DestsSeen). IfOk c.candidates_with.result (λ v. v.items ≡ candidates_of c.args.service.now seen.rows)) c.candidates_with.ensures

pub returns-in-None : goal.returns-in-None
returns-in-None c =
    subst (λ (seen : DestsSeen). IfOk c.copy_candidates.result (λ v. v.items ≡ candidates_of c.args.service.now seen.rows)) (change_missed c.args.id (bound c.args.active) c.args.self.now (sym c.in-None.ensures.row)) c.copy_candidates.ensures
