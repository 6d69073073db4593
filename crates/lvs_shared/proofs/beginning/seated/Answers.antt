use Rattle.std.proofs.Common.{◌+◌, rules, arith, length, ◌∷◌, sym, ◌∙◌, subst, refl}
use mathlib.Core.List.{reverse}
use Rattle.lvs_shared.specs.Openings.{begun}
use Rattle.lvs_shared.specs.Seats.{SeatSeen, IsSeat}
use Rattle.lvs_shared.proofs.Dealing.{last_pass, none_left, is_new_seat, seats_step, seat_is, cut_step, cut_length}
use Rattle.lvs_shared.proofs.beginning.seated.Goals as goal

pub unreachable-requires : goal.unreachable-requires
unreachable-requires g c = let o = g.N.RoundName.book.origin in let ms = c.pop.new.self.items in
    let n = cut_length c.loop-list.lists.items ms c.in-Some.list c.in-Some.ensures.items in
    none_left g.N.RoundName.book.id o ((begun o).buckets + length c.loop-list.lists.items) ((begun o).buckets + length ms) c.loop-list.passes.items c.loop-list.invariant.passes (search rules) (omega (arith, n))

pub new-requires : goal.new-requires
new-requires g c = let o = g.N.RoundName.book.origin in let z = g.N.RoundName.book.id in let ms = c.pop.new.self.items in
    let n = cut_length c.loop-list.lists.items ms c.in-Some.list c.in-Some.ensures.items in
    let last = last_pass z o ((begun o).buckets + length c.loop-list.lists.items) ((begun o).buckets + length ms) c.loop-list.passes.items c.pop-in-Some.new.self.items c.in-Some-pop.pass c.loop-list.invariant.passes (omega (arith, n)) c.in-Some-pop.ensures.items in
    let s : SeatSeen = record { actor = c.len.result; number = 0; left = reverse c.turned.result.items; pass = c.in-Some-pop.pass } in
    subst (IsSeat z o) (sym (seat_is z o (length ms) c.in-Some.list s (search rules) refl c.turned.ensures last.1))
    (is_new_seat z o ms c.in-Some.list c.loop-list.invariant.lists.0 c.requires.opened (cut_step o.plan.lists c.loop-list.lists.items ms c.loop-list.invariant.lists.0 c.in-Some.list c.loop-list.invariant.lists.1 c.in-Some.ensures.items))

pub loop-list-preserved : goal.loop-list-preserved
loop-list-preserved g c = let o = g.N.RoundName.book.origin in let z = g.N.RoundName.book.id in let ms = c.pop.new.self.items in
    let i = c.loop-list.invariant in
    let n = cut_length c.loop-list.lists.items ms c.in-Some.list c.in-Some.ensures.items in
    let last = last_pass z o ((begun o).buckets + length c.loop-list.lists.items) ((begun o).buckets + length ms) c.loop-list.passes.items c.pop-in-Some.new.self.items c.in-Some-pop.pass i.passes (omega (arith, n)) c.in-Some-pop.ensures.items in
    let s : SeatSeen = record { actor = c.len.result; number = 0; left = reverse c.turned.result.items; pass = c.in-Some-pop.pass } in
    record {
      all = seats_step z o c.args.lists.items c.loop-list.lists.items ms c.in-Some.list c.loop-list.seats.items c.push_reserved.new.self.items c.new.result i.all c.in-Some.ensures.items c.push_reserved.ensures.items (c.new.ensures ∙ seat_is z o (length ms) c.in-Some.list s (search rules) refl c.turned.ensures last.1);
      lists = (c.in-Some.list ∷ i.lists.0, cut_step o.plan.lists c.loop-list.lists.items ms i.lists.0 c.in-Some.list i.lists.1 c.in-Some.ensures.items);
      passes = last.0;
      len = search rules;
      room = search rules;
    }
