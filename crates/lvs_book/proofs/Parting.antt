-- Split and join keep the rule: lanes move between two views that are out, with their acts.
use Rattle.std.proofs.Common.{◌≡◌, ℕ, ◌+◌, ◌%◌, ◌^◌, List, [], ◌∷◌, ◌++◌, length, set, sym, ap, ◌∙◌, subst, arith, ⊎_elim, length-append}
use Rattle.atomic_table.specs.Table.{Splits, Joins}
use Rattle.atomic_table.proofs.Lists.{set_else, at_snoc}
use Rattle.lvs_book.specs.declared.view.Phase.TheVariants.{Out}
use Rattle.lvs_book.specs.declared.view.View.{View}
use Rattle.lvs_book.specs.Sums.{total, between}
use Rattle.lvs_book.specs.Lanes.{first_lane, other_lanes}
use Rattle.lvs_book.specs.Rule.{has_ticket, waits, works, ticket, waiting, working, lane, lane_count, Sound, Slot, Kept}
use Rattle.lvs_book.specs.Steps.{at_rest}
use Rattle.lvs_book.proofs.Sums.{total_split, total_join}
use Rattle.lvs_book.proofs.Lanes.{cut_times, cut_length, join_times, own_first, own_rest, own_append, of_first, of_rest, of_append}
use Rattle.lvs_book.proofs.Facts.{each_set}

module _ {S O A : Type 0} (origin : S → O) (acts : S → List A) (names : A → List ℕ) (n : ℕ) (o : O) where
  abbrev V : Type 0
  V = View O A

  pub splits : (id : ℕ) (v : V) → v.phase ≡ Out → Splits (Kept origin acts names n o) id v (at_rest (first_lane v.lanes)) (at_rest (other_lanes v.lanes))
  splits id v out s r at = let a : V = at_rest (first_lane v.lanes) in let b : V = at_rest (other_lanes v.lanes) in let vs : List V = set s.views id a ++ b ∷ [] in
      let old = r.each id v at in let cut = cut_length v.lanes in let fine = Sound origin acts names r.served r.log o in
      let same_wait : total waiting vs ≡ total waiting s.views = total_split waiting s.views id v a b at (ap waits (sym out)) in
      let first : fine a = (tt, omega arith, of_first o v.lanes old.2, own_first names r.log v.lanes old.3) in
      let second : fine b = (tt, omega arith, of_rest o v.lanes old.2, own_rest names r.log v.lanes old.3) in record {
        served = r.served;
        log = r.log;
        few = r.few;
        all = total_split lane_count s.views id v a b at cut ∙ r.all;
        once = λ k. total_split (lane k) s.views id v a b at (cut_times k v.lanes) ∙ r.once k;
        words = r.words ∙ (λ i. (r.served + sym same_wait i) % 2 ^ 64 ∷ r.served % 2 ^ 64 ∷ length r.log % 2 ^ 64 ∷ []);
        tickets = λ t. total_split (ticket t) s.views id v a b at (ap (has_ticket t) (sym out)) ∙ r.tickets t ∙ ap (λ (z : ℕ). between r.served (r.served + z) t) (sym same_wait);
        slot = subst (Slot origin acts names s.homes r.log o) (sym (total_split working s.views id v a b at (ap works (sym out)))) r.slot;
        each = λ j u e. ⊎_elim (each_set fine s.views id a first (λ i x _. r.each i x) j u) (λ (t : b ≡ u). subst fine t second) (at_snoc (set s.views id a) b u j e);
        within = r.within;
      }

  pub joins : (id : ℕ) (v : V) (other : ℕ) (u : V) → v.phase ≡ Out → u.phase ≡ Out → Joins (Kept origin acts names n o) id v other u (at_rest (v.lanes ++ u.lanes)) (at_rest [])
  joins id v other u out out' s r at apart there = let a : V = at_rest (v.lanes ++ u.lanes) in let b : V = at_rest [] in let vs : List V = set (set s.views id a) other b in
      let old = r.each id v at in let their = r.each other u (sym (set_else s.views id other a apart) ∙ there) in let long = length-append v.lanes u.lanes in let fine = Sound origin acts names r.served r.log o in
      let same_wait : total waiting vs ≡ total waiting s.views = total_join waiting s.views id other v u a b at there (λ i. waits (sym out i) + waits (sym out' i)) in record {
        served = r.served;
        log = r.log;
        few = r.few;
        all = total_join lane_count s.views id other v u a b at there (omega arith) ∙ r.all;
        once = λ k. total_join (lane k) s.views id other v u a b at there (join_times k v.lanes u.lanes) ∙ r.once k;
        words = r.words ∙ (λ i. (r.served + sym same_wait i) % 2 ^ 64 ∷ r.served % 2 ^ 64 ∷ length r.log % 2 ^ 64 ∷ []);
        tickets = λ t. total_join (ticket t) s.views id other v u a b at there (λ i. has_ticket t (sym out i) + has_ticket t (sym out' i)) ∙ r.tickets t ∙ ap (λ (z : ℕ). between r.served (r.served + z) t) (sym same_wait);
        slot = subst (Slot origin acts names s.homes r.log o) (sym (total_join working s.views id other v u a b at there (λ i. works (sym out i) + works (sym out' i)))) r.slot;
        each = each_set fine (set s.views id a) other b (tt, omega arith, tt, tt)
            (λ j x _. each_set fine s.views id a (tt, omega arith, of_append o v.lanes u.lanes old.2 their.2, own_append names r.log v.lanes u.lanes old.3 their.3) (λ i y _. r.each i y) j x);
        within = r.within;
      }
