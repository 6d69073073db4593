use Rattle.std.proofs.Common.{◌≡◌, ◌∙◌, ◌∷◌, suc, length, ap, subst, rules, arith}
use Rattle.std.specs.Vec.Iter.{into_iter_items}
use Rattle.lvs_shared.specs.Rounds.{AreFrom}
use Rattle.lvs_shared.proofs.Histories.{length_snoc}
use Rattle.lvs_shared.proofs.Ends.{homes_push}
use Rattle.std.proofs.Common.{ℕ}
use Rattle.lvs_shared.proofs.closing.parts_of.Goals as goal

pub loop-chamber-preserved : goal.loop-chamber-preserved
loop-chamber-preserved g c =
    let rest : into_iter_items c.loop-chamber.chamber-iterator ≡ c.in-Some.chamber ∷ into_iter_items c.next.new.self = search rules in
    let i = c.loop-chamber.invariant in
    let order = subst (AreFrom (length c.loop-chamber.buckets.items)) rest i.order in
    let n = ap length rest in
    let pushed = ap length c.push_reserved.ensures.items in
    let more = length_snoc c.loop-chamber.buckets.items c.into_parts-bucket.result.0 in
    record {
      can = tt;
      finite = tt;
      homes = homes_push g.N.RoundName.book.id g.N.RoundName.book.origin c.loop-chamber.buckets.items c.push_reserved.new.self.items c.loop-chamber.passes.items c.push_reserved-in-loop-chamber.new.self.items c.in-Some.chamber.bucket c.into_parts-bucket.result.0 c.in-Some.chamber.pass c.into_parts-bucket.result.1 i.homes c.push_reserved.ensures.items c.push_reserved-in-loop-chamber.ensures.items c.into_parts-bucket.ensures.bucket c.into_parts-bucket.ensures.pass c.into_parts-bucket.ensures.book order.0 c.into_parts-bucket.ensures.home;
      order = subst (λ (k : ℕ). AreFrom k (into_iter_items c.next.new.self)) (let e : suc (length c.loop-chamber.buckets.items) ≡ length c.push_reserved.new.self.items = omega (arith, pushed, more) in e) order.1;
      len = omega (arith, i.len, n, pushed, more);
      count = omega (arith, i.count, pushed, more, c.push_reserved.ensures.len);
      also = omega (arith, i.also, pushed, more, c.push_reserved-in-loop-chamber.ensures.len);
      room = omega (arith, i.room, c.push_reserved.ensures.capacity);
      space = omega (arith, i.space, c.push_reserved-in-loop-chamber.ensures.capacity);
      same = c.push_reserved-in-loop-chamber.ensures.capacity ∙ i.same;
    }
