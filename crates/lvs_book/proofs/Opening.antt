-- The rule holds when a book begins, and what it says once one pass has all lanes.
use Rattle.std.proofs.Common.{◌≡◌, ◌≢◌, ℕ, zero, suc, ◌+◌, ◌^◌, ◌<◌, ◌≤◌, List, [], ◌∷◌, length, refl, sym, ap, ◌∙◌, subst, arith}
use mathlib.Core.Option.{some, some-injective, some-ne-none}
use mathlib.Core.Logic.{dite}
use native.Mathlib.Decide.{ℕ_discrete}
use lib.ListN.{get_elem?}
use Rattle.atomic_table.specs.Table.{State, opening, Seen, Final}
use Rattle.lvs_book.specs.declared.view.Phase.{Phase}
use Rattle.lvs_book.specs.declared.view.Phase.TheVariants.{Out, Waiting, Turn, Committed}
use Rattle.lvs_book.specs.declared.view.View.{View}
use Rattle.lvs_book.specs.Sums.{total, between}
use Rattle.lvs_book.specs.Lanes.{times, numbers, new_lanes, AllFrom, Own, Within}
use Rattle.lvs_book.specs.Rule.{waits, works, working, lane_count, Sound, Kept}
use Rattle.lvs_book.specs.Steps.{at_rest}
use Rattle.lvs_book.proofs.Sums.{total_none, total_two, between_none}
use Rattle.lvs_book.proofs.Lanes.{new_times, new_length, of_new, own_new}
use Rattle.lvs_book.proofs.Facts.{at_home}

module _ {S O A : Type 0} (origin : S → O) (acts : S → List A) (names : A → List ℕ) (n : ℕ) (o : O) where
  abbrev V : Type 0
  V = View O A

  abbrev Rule : State S V → Type 0
  Rule = Kept origin acts names n o

  alone_there : (P : V → Type 0) (v : V) → P v → (i : ℕ) (u : V) → get_elem? (v ∷ []) i ≡ some u → P u
  alone_there P v p zero u e = subst P (some-injective v u e) p
  alone_there P v p (suc i) u e = absurd (some-ne-none u (sym e))

  pub opens : (x : S) → n < 2 ^ 32 → origin x ≡ o → acts x ≡ [] → Rule (opening (0 ∷ 0 ∷ 0 ∷ []) (x ∷ []) (at_rest (new_lanes o 0 n)))
  opens x small from bare = let v : V = at_rest (new_lanes o 0 n) in let long = new_length A o 0 n in let up : 0 + n ≡ n = omega arith in record {
    served = 0;
    log = [];
    few = small;
    all = omega arith;
    once = λ k. let f = new_times A o 0 n k in let g : times k (numbers v.lanes) ≡ between 0 n k = f ∙ ap (λ (z : ℕ). between 0 z k) up in omega arith;
    words = refl;
    tickets = λ t. sym (between_none 0 t);
    slot = (from, bare, refl);
    each = alone_there (Sound origin acts names 0 [] o) v (tt, omega arith, of_new A o 0 n, own_new names o 0 n);
    within = tt;
  }

  works_waits : (p : Phase A) → works p ≤ waits p
  works_waits Out = omega arith
  works_waits (Waiting t) = omega arith
  works_waits (Turn t found) = omega arith
  works_waits (Committed t found a) = omega arith

  -- no other has any lane, so no other works
  idle : (s : State S V) (r : Rule s) (id : ℕ) (v : V) → get_elem? s.views id ≡ some v → length v.lanes ≡ n → (j : ℕ) (u : V) → j ≢ id → get_elem? s.views j ≡ some u → working u ≡ 0
  idle s r id v at full j u other there = let b = total_two lane_count s.views j id u v other there at in let c = r.all in let d = works_waits u.phase in let k = (r.each j u there).1 in omega arith

  -- the slot is at home
  ends : (s : State S V) (id : ℕ) (v : V) → Seen Rule id v s → v.phase ≡ Out → length v.lanes ≡ n → (y : S) × (s.homes ≡ some y ∷ []) × (origin y ≡ o) × AllFrom (origin y) v.lanes × Own names (acts y) v.lanes × Within names n (acts y)
  ends s id v seen out full = let r = seen.0 in let at = seen.1 in
      let quiet = total_none working s.views (λ j u there. dite (ℕ_discrete j id) (λ (e : j ≡ id). ap working (some-injective u v (sym there ∙ ap (get_elem? s.views) e ∙ at)) ∙ ap works out) (λ (other : j ≢ id). idle s r id v at full j u other there)) in
      let h = at_home origin acts names o s.homes r.log (total working s.views) r.slot quiet in (
        h.0,
        h.1,
        h.2,
        subst (λ (x : O). AllFrom x v.lanes) (sym h.2) (r.each id v at).2,
        subst (λ (l : List A). Own names l v.lanes) (sym h.3) (r.each id v at).3,
        subst (Within names n) (sym h.3) r.within,
      )

  pub ended : (id : ℕ) (v : V) (ws : List ℕ) (xs : List S) (t : S) → Final (Seen Rule id v) ws xs → v.phase ≡ Out → length v.lanes ≡ n → get_elem? xs 0 ≡ some t
      → (origin t ≡ o) × AllFrom (origin t) v.lanes × Own names (acts t) v.lanes × Within names n (acts t)
  ended id v ws xs t last out full there = let e = ends last.0 id v last.1 out full in let is : e.0 ≡ t = some-injective e.0 t (sym (last.4 0 e.0 (ap (λ hs. get_elem? hs 0) e.1)) ∙ there) in
      subst (λ y. (origin y ≡ o) × AllFrom (origin y) v.lanes × Own names (acts y) v.lanes × Within names n (acts y)) is (e.2, e.3, e.4, e.5)
