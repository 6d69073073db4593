use Rattle.std.proofs.Common.{◌≡◌, ◌∙◌, ◌∷◌, ◌++◌, [], suc, length, sym, ap, subst, rules, arith, append_assoc, List, ℕ}
use Rattle.std.specs.Vec.Iter.{into_iter_items}
use Rattle.lvs_shared.specs.Seats.{SeatSeen, AreSeats}
use Rattle.lvs_shared.proofs.Histories.{length_snoc}
use Rattle.lvs_shared.proofs.Ends.{seated_snoc, passes_push}
use Rattle.lvs_shared.proofs.closing.passes_of.Goals as goal

pub loop-seat-preserved : goal.loop-seat-preserved
loop-seat-preserved g c =
    let rest : into_iter_items c.loop-seat.seat-iterator ≡ c.in-Some.seat ∷ into_iter_items c.next.new.self = search rules in
    let i = c.loop-seat.invariant in
    let m = length g.N.RoundName.book.origin.plan.lists in
    let order = subst (AreSeats (length c.loop-seat.yielded) m) rest i.order in
    let n = ap length rest in
    let more = length_snoc c.loop-seat.yielded c.in-Some.seat in
    record {
      can = tt;
      finite = tt;
      whole = append_assoc c.loop-seat.yielded (c.in-Some.seat ∷ []) (into_iter_items c.next.new.self) ∙ ap (λ (l : List SeatSeen). c.loop-seat.yielded ++ l) (sym rest) ∙ i.whole;
      seated = seated_snoc g.N.RoundName.book.id g.N.RoundName.book.origin 0 c.loop-seat.yielded c.in-Some.seat i.seated c.into_pass.ensures.seat (omega (arith, order.0));
      passes = passes_push c.args.passes.now.items c.loop-seat.passes.items c.push_reserved.new.self.items c.loop-seat.yielded c.in-Some.seat c.into_pass.result i.passes c.push_reserved.ensures.items c.into_pass.ensures.pass;
      order = subst (λ (k : ℕ). AreSeats k m (into_iter_items c.next.new.self)) (let e : suc (length c.loop-seat.yielded) ≡ length (c.loop-seat.yielded ++ c.in-Some.seat ∷ []) = omega (arith, more) in e) order.1;
      room = omega (arith, i.room, n, c.push_reserved.ensures.len, c.push_reserved.ensures.capacity);
    }
