-- A commit keeps the rule: the history grows by the act, the lanes of the act by the same act, and no other lane changes.
use Rattle.std.proofs.Common.{◌≡◌, ℕ, ◌+◌, ◌%◌, ◌^◌, List, [], ◌∷◌, ◌++◌, length, get_or, set, refl, sym, ap, ◌∙◌, subst, arith, length-append}
use mathlib.Core.Option.{Option}
use Rattle.std.proofs.Math.Nat.{mod-add-mod}
use Rattle.atomic_table.specs.Table.{Me, keeps, Allows}
use Rattle.lvs_book.specs.declared.view.Phase.TheVariants.{Turn, Committed}
use Rattle.lvs_book.specs.declared.view.View.{View}
use Rattle.lvs_book.specs.Sums.{total, between}
use Rattle.lvs_book.specs.Lanes.{times, numbers, grown}
use Rattle.lvs_book.specs.Rule.{has_ticket, waits, works, ticket, waiting, working, lane, lane_count, Turns, Sound, Slot, Kept}
use Rattle.lvs_book.specs.Steps.{Added, committed}
use Rattle.lvs_book.proofs.Sums.{total_same, at_le_total, total_two, between_in}
use Rattle.lvs_book.proofs.Lanes.{numbers_grown, grown_length, own_grown, own_others, of_grown, times_one, times_none, stands_some, within_more, some_number}
use Rattle.lvs_book.proofs.Facts.{each_set, idle_turns, once_below, slot_out, alone}

count_step : {A : Type 0} (log log' : List A) → length log' ≡ length log + 1 → (length log % 2 ^ 64 + 1) % 2 ^ 64 ≡ length log' % 2 ^ 64
count_step log log' e = mod-add-mod (length log) (2 ^ 64) 1 ∙ ap (λ (z : ℕ). z % 2 ^ 64) (sym e)

module _ {S O A : Type 0} (origin : S → O) (acts : S → List A) (names : A → List ℕ) (n : ℕ) (o : O) where
  abbrev V : Type 0
  V = View O A

  abbrev held : S → List (ℕ × S) → S
  held d [] = d
  held d (x ∷ xs) = x.1

  pub commits : (slots id : ℕ) (me : Me S V) → Added origin acts names me → Allows (Kept origin acts names n o) slots id me 2 (λ x. (x + 1) % 2 ^ 64) (committed origin acts names me)
  commits slots id me add s r _ at _ = let v : V = me.0 in let y : S = add.0 in let t : ℕ = add.1 in let found : List A = add.2 in let a : A = add.3 in let turn : v.phase ≡ Turn t found = add.5 in let named = add.7 in
      let old = r.each id v at in let served : ℕ = r.served in
      let w : V = record { phase = Committed t found a; lanes = grown a v.lanes } in let vs : List V = set s.views id w in let all : ℕ = total waiting s.views in
      let known : Turns origin acts names served r.log (Turn t found) = subst (Turns origin acts names served r.log) turn old.0 in
      let busy : works v.phase ≡ 1 = ap works turn in let up : waits v.phase ≡ 1 = ap waits turn in let manned = old.1 in
      let same_wait : total waiting vs ≡ all = total_same waiting s.views id v w at (ap waits turn) in
      let log : List A = r.log ++ a ∷ [] in
      let gone = slot_out origin acts names n o s r id v at busy in
      let longer : length log ≡ length r.log + 1 = length-append r.log (a ∷ []) in (
        w,
        keeps,
        tt,
        record {
          served = served;
          log = log;
          few = r.few;
          all = total_same lane_count s.views id v w at (sym (grown_length a v.lanes)) ∙ r.all;
          once = λ k. total_same (lane k) s.views id v w at (ap (times k) (sym (numbers_grown a v.lanes))) ∙ r.once k;
          words = ap (λ (ws : List ℕ). set ws 2 ((get_or ws 2 0 + 1) % 2 ^ 64)) r.words ∙ (λ i. (served + sym same_wait i) % 2 ^ 64 ∷ served % 2 ^ 64 ∷ count_step r.log log longer i ∷ []);
          tickets = λ u. total_same (ticket u) s.views id v w at (ap (has_ticket u) turn) ∙ r.tickets u ∙ ap (λ (z : ℕ). between served (served + z) u) (sym same_wait);
          slot = subst (λ (hs : List (Option S)). Slot origin acts names hs log o (total working vs)) (sym gone.0) (total_same working s.views id v w at busy ∙ gone.1);
          each = each_set (Sound origin acts names served log o) s.views id w
              ((known.0, ap (λ (l : List A). l ++ a ∷ []) known.1), (let g = grown_length a v.lanes in omega arith), of_grown o a v.lanes old.2, own_grown names a r.log v.lanes (λ k h. named k ∙ times_one k (numbers v.lanes) h) old.3)
              (λ j u other there. let k = r.each j u there in (
                idle_turns origin acts names served served r.log log u.phase (alone origin acts names n o s r id v at busy j u other there) k.0,
                k.1,
                k.2,
                own_others names a r.log u.lanes (λ i h. named i ∙ times_none i (numbers v.lanes) (let b = total_two (lane i) s.views j id u v other there at in let c = once_below origin acts names n o s r i in omega arith)) k.3,
              ));
          within = let some_lane = some_number names v.lanes (omega arith) in
              within_more names n r.log a r.within (λ k e. let has_k = stands_some k (numbers v.lanes) (sym (named k) ∙ e) in let c = at_le_total (lane k) s.views id v at in let all_k = r.once k in (between_in 0 n k (omega arith)).1) some_lane.0 (named some_lane.0 ∙ some_lane.1);
        },
        (t, found, a, refl, λ x e. ap (λ (z : List (ℕ × S)). acts (held y z)) (sym e ∙ add.4) ∙ add.6),
      )
