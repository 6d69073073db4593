use Rattle.std.proofs.Common.{◌≡◌, List, [], ◌∷◌, ◌++◌, length, sym, ◌∙◌, ap, subst, rules, arith}
use Rattle.std.specs.Vec.Iter.{into_iter_items}
use Rattle.lvs_types.specs.declared.book.Noted.{Noted}
use Rattle.lvs_types.specs.declared.book.Placed.{Placed}
use Rattle.lvs_types.specs.declared.item.Item.{Item}
use Rattle.lvs_model.specs.Step.{step, AreInRange}
use Rattle.lvs_script.specs.Placing.{items_placed}
use Rattle.lvs_run.proofs.Acts.{placed_push}
use Rattle.lvs_run.proofs.Runs.{run_push}
use Rattle.lvs_run.proofs.round.play_items.Goals as goal

pub loop-placed-preserved : goal.loop-placed-preserved
loop-placed-preserved c =
    let act : Noted = record { actor = c.in-Some.placed.actor; number = c.in-Some.placed.number; item = c.in_ok-item.item; reply = c.in_ok-item.reply } in
    let rest : into_iter_items c.loop-placed.placed-iterator ≡ c.in-Some.placed ∷ into_iter_items c.next.new.self = search rules in
    let acts : c.push_reserved.new.self.items ≡ c.loop-placed.acts.items ++ act ∷ [] = c.push_reserved.ensures.items ∙ ap (λ (l : List Noted). l ++ act ∷ []) c.reserve.ensures.items in
    record {
      can = tt;
      finite = tt;
      whole = rw acts (placed_push c.loop-placed.acts.items act (into_iter_items c.loop-placed.placed-iterator) (into_iter_items c.next.new.self) c.args.items.items c.loop-placed.invariant.whole (rest ∙ ap (λ (i : Item). record { actor = c.in-Some.placed.actor; number = c.in-Some.placed.number; item = i } ∷ into_iter_items c.next.new.self) (sym c.in_ok-item.ensures.item)));
      run = rw acts (run_push c.args.director.now.state c.loop-placed.acts.items act c.loop-placed.director.state c.step.new.self.state c.loop-placed.invariant.run (ap (λ (i : Item). step c.loop-placed.director.state i) c.in_ok-item.ensures.item ∙ sym c.in_ok-item.ensures.ok));
      in_range = (subst (λ (l : List Placed). AreInRange (items_placed l)) rest c.loop-placed.invariant.in_range).1;
      young = omega (arith, c.loop-placed.invariant.young, c.in_ok-item.ensures.steps, ap length rest);
      steps = omega (arith, c.loop-placed.invariant.steps, c.in_ok-item.ensures.steps, ap length rest);
    }
