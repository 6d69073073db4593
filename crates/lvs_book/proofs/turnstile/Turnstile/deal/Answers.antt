use Rattle.std.proofs.Common.{rules, ◌≡◌, ◌+◌, ◌++◌, ◌∷◌, [], refl, sym, ap, ◌∙◌, arith}
use Rattle.lvs_book.specs.Steps.{at_rest}
use Rattle.lvs_book.specs.Lanes.{first_lane, other_lanes}
use Rattle.lvs_book.specs.Passes.{held_by}
use Rattle.lvs_book.proofs.Parting.{splits}
use Rattle.lvs_book.proofs.Dealing.{opened_next, cut_new, last_new}
use Rattle.lvs_book.proofs.turnstile.Turnstile.deal.Goals as goal

pub split_seat-rest-requires : goal.split_seat-rest-requires
split_seat-rest-requires g c = (search rules, search rules, splits _ _ _ _ _ _ _ (ap (λ m. m.0.phase) c.loop-dealt.invariant.seat))

pub invariant_of-push_reserved : goal.invariant_of-push_reserved
invariant_of-push_reserved g c = let o = g.T.Journal.origin c.args.self.now.table.shared.key.opened.value in let i = c.loop-dealt._dealt in let n = c.args.count in let z = c.args.seat.table_id in
    let cut = cut_new {A = g.row.T-Act.Denot} z o i n (omega (arith, c.loop-dealt-test.true)) in
    let views = c.into_badge.ensures.2 ∙ ap (λ s. s.me.0 ∷ []) c.replace-first.ensures.value ∙ ap (λ m. m.0 ∷ []) c.split_seat-rest.ensures.2 ∙ ap (λ m. at_rest (first_lane m.0.lanes) ∷ []) c.loop-dealt.invariant.seat ∙ ap (λ ls. at_rest ls ∷ []) cut.0 in
    (record { number = i; origin = o; acts = [] }, views)

pub loop-dealt-preserved : goal.loop-dealt-preserved
loop-dealt-preserved g c = let o = g.T.Journal.origin c.args.self.now.table.shared.key.opened.value in let i = c.loop-dealt._dealt in let n = c.args.count in let z = c.args.seat.table_id in
    let cut = cut_new {A = g.row.T-Act.Denot} z o i n (omega (arith, c.loop-dealt-test.true)) in
    let views = c.into_badge.ensures.2 ∙ ap (λ s. s.me.0 ∷ []) c.replace-first.ensures.value ∙ ap (λ m. m.0 ∷ []) c.split_seat-rest.ensures.2 ∙ ap (λ m. at_rest (first_lane m.0.lanes) ∷ []) c.loop-dealt.invariant.seat ∙ ap (λ ls. at_rest ls ∷ []) cut.0 in
    record {
      book = ap (λ s. s.table_id) c.replace-first.ensures.after ∙ c.split_seat-rest.ensures.3 ∙ c.loop-dealt.invariant.book;
      seat = ap (λ s. s.me) c.replace-first.ensures.after ∙ c.split_seat-rest.ensures.4 ∙ ap (λ m. (at_rest (other_lanes m.0.lanes), [])) c.loop-dealt.invariant.seat ∙ ap (λ ls. (at_rest ls, [])) cut.1;
      dealt = let same = c.into_badge.ensures.0 ∙ ap (λ s. s.table_id) c.replace-first.ensures.value ∙ c.split_seat-rest.ensures.0 ∙ c.loop-dealt.invariant.book in
          c.push_reserved.ensures.items ∙ (λ d. c.loop-dealt.invariant.dealt d ++ held_by (same d) g.T.Journal.nowhere (views d) ∷ []) ∙ sym (opened_next z o i (i + 1) refl);
      len = search rules;
      room = search rules;
    }

pub invariant_of-push_reserved-2 : goal.invariant_of-push_reserved-2
invariant_of-push_reserved-2 g c = let o = g.T.Journal.origin c.args.self.now.table.shared.key.opened.value in let i = c.loop-dealt._dealt in let n = c.args.count in let z = c.args.seat.table_id in
    let end : i + 1 ≡ n = omega (arith, c.loop-dealt-test.false, c.requires.lanes.0, c.loop-dealt.auto._dealt-end) in
    let views = c.into_badge-2.ensures.2 ∙ ap (λ m. m.0 ∷ []) c.loop-dealt.invariant.seat ∙ ap (λ ls. at_rest ls ∷ []) (last_new {A = g.row.T-Act.Denot} z o i n end) in
    (record { number = i; origin = o; acts = [] }, views)

pub returns : goal.returns
returns g c = let o = g.T.Journal.origin c.args.self.now.table.shared.key.opened.value in let i = c.loop-dealt._dealt in let n = c.args.count in let z = c.args.seat.table_id in
    let end : i + 1 ≡ n = omega (arith, c.loop-dealt-test.false, c.requires.lanes.0, c.loop-dealt.auto._dealt-end) in
    let views = c.into_badge-2.ensures.2 ∙ ap (λ m. m.0 ∷ []) c.loop-dealt.invariant.seat ∙ ap (λ ls. at_rest ls ∷ []) (last_new {A = g.row.T-Act.Denot} z o i n end) in
    let same = c.into_badge-2.ensures.0 ∙ c.loop-dealt.invariant.book in
    c.push_reserved-2.ensures.items ∙ (λ d. c.loop-dealt.invariant.dealt d ++ held_by (same d) g.T.Journal.nowhere (views d) ∷ []) ∙ sym (opened_next z o i n (sym end))
