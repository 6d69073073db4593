use Rattle.std.proofs.Common.{[], ◌∷◌, length, sym, ap, ◌∙◌}
use Rattle.lvs_book.specs.Lanes.{grown}
use Rattle.lvs_book.specs.Steps.{at_rest}
use Rattle.lvs_book.proofs.Lanes.{grown_length}
use Rattle.lvs_book.proofs.Working.{is_ready, added, unchanged, all_from}
use Rattle.lvs_book.proofs.turnstile.Turnstile.commit_seat.Goals as goal

pub work_held-requires-clause-ready : goal.work_held-requires-clause-ready
work_held-requires-clause-ready g c = let t = c.take_turn.ensures.turn in is_ready _ _ _ t.0 c.args.seat.now.me _ t.1 _ _ _ c.requires.lanes c.requires.acts c.requires.origin

pub count_and_leave-requires-clause-added : goal.count_and_leave-requires-clause-added
count_and_leave-requires-clause-added g c = let t = c.take_turn.ensures.turn in added _ _ _ t.0 c.args.seat.now.me c.take_turn.new.seat.me t.1 _ (λ (a : g.row.T-Act.Denot). g.W.Work.first c.args.work.now a c.in-Ok.out c.work_held.new.work) _ c.requires.lanes c.in-Ok.ensures.ok

pub leave-requires-clause-held : goal.leave-requires-clause-held
leave-requires-clause-held g c = let t = c.take_turn.ensures.turn in unchanged _ _ _ t.0 c.args.seat.now.me c.take_turn.new.seat.me t.1 _ c.in-Err.ensures.err.0

pub returns-in-Ok-clause-ok : goal.returns-in-Ok-clause-ok
returns-in-Ok-clause-ok g c = let w = c.in-Ok.ensures.ok in let t = c.take_turn.ensures.turn in
    (w.2, c.count_and_leave.ensures.out w.1 _ w.2 (ap (λ m. m.1) w.4) w.5 ∙ ap (λ m. (at_rest (grown w.2 m.0.lanes), [])) (w.4 ∙ ap (λ m. (m.0, (0, w.1) ∷ [])) t.1.1), w.8)

pub returns-in-Ok-clause-out : goal.returns-in-Ok-clause-out
returns-in-Ok-clause-out g c = let o = returns-in-Ok-clause-ok g c in (o.1 ∙ ap (λ m. (at_rest m.0.lanes, [])) (sym o.1), ap (λ m. length m.0.lanes) o.1 ∙ grown_length o.0 c.args.seat.now.me.0.lanes)

pub returns-in-Err-clause-err : goal.returns-in-Err-clause-err
returns-in-Err-clause-err g c = let w = c.in-Err.ensures.err in let t = c.take_turn.ensures.turn in (c.leave.ensures.out ∙ ap (λ m. (at_rest m.0.lanes, [])) (w.0 ∙ t.1.1) ∙ sym c.requires.out.0, w.1)

pub returns-in-Err-clause-out : goal.returns-in-Err-clause-out
returns-in-Err-clause-out g c = let o = returns-in-Err-clause-err g c in (o.0 ∙ c.requires.out.0 ∙ ap (λ m. (at_rest m.0.lanes, [])) (sym o.0), ap (λ m. length m.0.lanes) o.0)

pub returns-in-Ok-clause-lanes : goal.returns-in-Ok-clause-lanes
returns-in-Ok-clause-lanes g c = let t = c.take_turn.ensures.turn in (all_from _ _ _ t.0 c.args.seat.now.me _ t.1 _ c.requires.origin, t.1.4)

pub returns-in-Err-clause-lanes : goal.returns-in-Err-clause-lanes
returns-in-Err-clause-lanes g c = let t = c.take_turn.ensures.turn in (all_from _ _ _ t.0 c.args.seat.now.me _ t.1 _ c.requires.origin, t.1.4)
