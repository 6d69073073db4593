use Rattle.std.proofs.Common.{◌∙◌, ◌∷◌, [], refl, ap, ◌+◌}
use mathlib.Core.List.{reverse}
use Rattle.std.proofs.lemmas.List.{reverse-append}
use Rattle.lvs_shared.proofs.Seating.{seat_next, seat_more}
use Rattle.lvs_shared.proofs.stepping.step_on.Goals as goal

pub invariant_of-seat-in-Ok : goal.invariant_of-seat-in-Ok
invariant_of-seat-in-Ok g c = let r = c.in-Ok.ensures.ok in
    seat_more g.N.RoundName.book.id g.N.RoundName.book.origin (record { actor = c.seat.inside.actor; number = c.seat.inside.number; left = reverse c.seat.inside.left.items; pass = c.seat.inside.pass }) (record { actor = c.seat.inside.actor; number = c.seat.inside.number + 1; left = reverse c.pop.new.self.items; pass = c.commit.new.own }) r.0 c.in-Some.item c.seat.invariant (ap reverse c.in-Some.ensures.items ∙ reverse-append c.pop.new.self.items (c.in-Some.item ∷ [])) refl refl r.1

pub commit-requires-clause-own : goal.commit-requires-clause-own
commit-requires-clause-own g c =
    seat_next g.N.RoundName.book.id g.N.RoundName.book.origin (record { actor = c.seat.inside.actor; number = c.seat.inside.number; left = reverse c.seat.inside.left.items; pass = c.seat.inside.pass }) c.in-Some.item (reverse c.pop.new.self.items) c.seat.invariant (ap reverse c.in-Some.ensures.items ∙ reverse-append c.pop.new.self.items (c.in-Some.item ∷ []))
