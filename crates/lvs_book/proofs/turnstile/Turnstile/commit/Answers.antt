use Rattle.std.proofs.Common.{◌∷◌, [], length, ap, ◌∙◌}
use Rattle.lvs_book.specs.Steps.{at_rest}
use Rattle.lvs_book.proofs.Passing.{one_lane}
use Rattle.lvs_book.proofs.turnstile.Turnstile.commit.Goals as goal

pub invariant_of-pass : goal.invariant_of-pass
invariant_of-pass g c = let out = c.commit_seat-outcome.ensures.out in let one = one_lane c.commit_seat-outcome.new.seat.me.0.lanes (out.1 ∙ ap (λ m. length m.0.lanes) c.take_seat-seat.ensures.out) in
    (one.0, c.into_badge.ensures.2 ∙ ap (λ m. m.0 ∷ []) out.0 ∙ ap (λ ls. at_rest ls ∷ []) one.1)
