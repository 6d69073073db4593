use Rattle.std.proofs.Common.{rules, ◌∷◌, ◌++◌, [], length, sym, ap, subst, ◌∙◌}
use Rattle.lvs_book.specs.Lanes.{AllFrom, Apart, first_lane, other_lanes}
use Rattle.lvs_book.specs.Steps.{at_rest}
use Rattle.lvs_book.specs.Passes.{lane_of}
use Rattle.lvs_book.proofs.Parting.{splits, joins}
use Rattle.lvs_book.proofs.Passing.{two_lanes, two_apart}
use Rattle.lvs_book.proofs.turnstile.Turnstile.commit_pair.Goals as goal

pub join_seat-requires : goal.join_seat-requires
join_seat-requires g c = (search rules, search rules, ap (λ m. m.1) c.take_seat-other.ensures.out, search rules, joins _ _ _ _ _ _ _ _ _ (ap (λ m. m.0.phase) c.take_seat-seat.ensures.out) (ap (λ m. m.0.phase) c.take_seat-other.ensures.out))

pub split_seat-other-requires : goal.split_seat-other-requires
split_seat-other-requires g c = (search rules, search rules, splits _ _ _ _ _ _ _ (ap (λ m. m.0.phase) c.commit_seat-outcome.ensures.out.0))

pub invariant_of-first : goal.invariant_of-first
invariant_of-first g c = let left = c.take_seat-seat.ensures.out in let right = c.take_seat-other.ensures.out in
    let two = two_lanes c.commit_seat-outcome.new.seat.me.0.lanes (c.commit_seat-outcome.ensures.out.1 ∙ ap (λ m. length m.0.lanes) c.join_seat.ensures.2 ∙ (λ i. length ((left i).0.lanes ++ (right i).0.lanes))) in
    (two.0, c.into_badge.ensures.2 ∙ ap (λ m. m.0 ∷ []) c.split_seat-other.ensures.2 ∙ ap (λ ls. at_rest (first_lane ls) ∷ []) two.2)

pub invariant_of-second : goal.invariant_of-second
invariant_of-second g c = let left = c.take_seat-seat.ensures.out in let right = c.take_seat-other.ensures.out in
    let two = two_lanes c.commit_seat-outcome.new.seat.me.0.lanes (c.commit_seat-outcome.ensures.out.1 ∙ ap (λ m. length m.0.lanes) c.join_seat.ensures.2 ∙ (λ i. length ((left i).0.lanes ++ (right i).0.lanes))) in
    (two.1, c.into_badge-2.ensures.2 ∙ ap (λ m. m.0 ∷ []) c.split_seat-other.ensures.4 ∙ ap (λ ls. at_rest (other_lanes ls) ∷ []) two.2)

pub returns-clause-lanes : goal.returns-clause-lanes
returns-clause-lanes g c = let left = c.take_seat-seat.ensures.out ∙ ap (λ p. (at_rest (lane_of p ∷ []), [])) c.first.view_is in let right = c.take_seat-other.ensures.out ∙ ap (λ p. (at_rest (lane_of p ∷ []), [])) c.second.view_is in
    let both = ap (λ m. m.0.lanes) c.join_seat.ensures.2 ∙ (λ i. (left i).0.lanes ++ (right i).0.lanes) in
    let known = subst (λ ls. AllFrom (g.W.Work.origin c.args.work.now) ls × Apart ls) both c.commit_seat-outcome.ensures.lanes in
    (two_apart (lane_of c.args.first.now) (lane_of c.args.second.now) known.1, known.0.1.0 ∙ sym known.0.0)
