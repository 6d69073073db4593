use Rattle.std.proofs.Common.{rules, ◌∷◌, [], ◌++◌, map, sym, ap, ◌∙◌}
use Rattle.std.proofs.lemmas.List.{append-nil}
use Rattle.lvs_book.specs.Steps.{at_rest}
use Rattle.lvs_book.specs.Passes.{held_lane, lane_of}
use Rattle.lvs_book.proofs.Parting.{joins}
use Rattle.lvs_book.proofs.Passing.{held_book}
use Rattle.lvs_book.proofs.Closing.{one_more}
use Rattle.lvs_book.proofs.turnstile.Turnstile.collect.Goals as goal

pub loop-pass-init : goal.loop-pass-init
loop-pass-init g c = let id = c.args.self.now.table.shared.table_id in let was = c.take_seat-seat.ensures.out ∙ ap (λ p. (at_rest (lane_of p ∷ []), [])) c.last.view_is in
    let more = one_more id _ c.args.passes.now.items c.pop.new.self.items _ [] c.requires.all (c.in-Some.ensures.items ∙ sym (append-nil _)) in
    record {
      book = c.take_seat-seat.ensures.book ∙ sym (held_book _ _ _) ∙ ap (λ p. p.book) c.last.view_is ∙ more.0;
      out = was ∙ ap (λ m. (at_rest m.0.lanes, [])) (sym was);
      lanes = more.1 ∙ ap (λ m. c.pop.new.self.items ++ map (held_lane id) m.0.lanes) (sym was);
    }

pub join_seat-requires : goal.join_seat-requires
join_seat-requires g c = let id = c.args.self.now.table.shared.table_id in let rest = c.loop-pass.seat.me.0.lanes in
    let more = one_more id _ c.args.passes.now.items c.pop-in-loop-pass.new.self.items _ rest c.requires.all (c.loop-pass.invariant.lanes ∙ ap (λ l. l ++ map (held_lane id) rest) c.in-Some-pop.ensures.items) in (
      c.take_seat-longer.ensures.book ∙ sym (held_book _ _ _) ∙ ap (λ p. p.book) c.pass.view_is ∙ more.0,
      search rules,
      ap (λ m. m.1) c.loop-pass.invariant.out,
      search rules,
      joins _ _ _ _ _ _ _ _ _ (ap (λ m. m.0.phase) c.take_seat-longer.ensures.out) (ap (λ m. m.0.phase) c.loop-pass.invariant.out),
    )

pub loop-pass-preserved : goal.loop-pass-preserved
loop-pass-preserved g c = let id = c.args.self.now.table.shared.table_id in let rest = c.loop-pass.seat.me.0.lanes in let was = c.take_seat-longer.ensures.out ∙ ap (λ p. (at_rest (lane_of p ∷ []), [])) c.pass.view_is in
    let more = one_more id _ c.args.passes.now.items c.pop-in-loop-pass.new.self.items _ rest c.requires.all (c.loop-pass.invariant.lanes ∙ ap (λ l. l ++ map (held_lane id) rest) c.in-Some-pop.ensures.items) in
    let both = c.join_seat.ensures.2 ∙ (λ i. (at_rest ((was i).0.lanes ++ rest), (was i).1)) in
    record {
      book = c.join_seat.ensures.0 ∙ c.take_seat-longer.ensures.book ∙ sym (held_book _ _ _) ∙ ap (λ p. p.book) c.pass.view_is ∙ more.0;
      out = both ∙ ap (λ m. (at_rest m.0.lanes, [])) (sym both);
      lanes = more.1 ∙ ap (λ m. c.pop-in-loop-pass.new.self.items ++ map (held_lane id) m.0.lanes) (sym both);
    }
