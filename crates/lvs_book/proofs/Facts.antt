-- What the rule says of one view, and of the others while one works.
use Rattle.std.proofs.Common.{◌≡◌, ◌≢◌, ℕ, ◌+◌, ◌<◌, ◌≤◌, ◌^◌, eqb, List, [], ◌∷◌, set, refl, subst, arith, ⊎_elim, ap, ◌∙◌}
use mathlib.Core.Option.{Option, some, none}
use lib.ListN.{get_elem?}
use Rattle.atomic_table.specs.Table.{State}
use Rattle.atomic_table.proofs.Lists.{at_set}
use Rattle.lvs_book.specs.declared.view.Phase.{Phase}
use Rattle.lvs_book.specs.declared.view.Phase.TheVariants.{Out, Waiting, Turn, Committed}
use Rattle.lvs_book.specs.declared.view.View.{View}
use Rattle.lvs_book.specs.Sums.{total, one_if}
use Rattle.lvs_book.specs.Rule.{has_ticket, waits, works, ticket, waiting, working, lane, lane_count, Turns, Slot, Kept}
use Rattle.lvs_book.specs.Steps.{GivesBack}
use Rattle.lvs_book.proofs.Sums.{at_le_total, total_le, total_two, between_in, between_le, one_if_eq}

module _ {V : Type 0} where
  -- one view is replaced, and the fact holds of the new one and of all others
  pub each_set : (P : V → Type 0) (vs : List V) (i : ℕ) (w : V) → P w → ((j : ℕ) (v : V) → j ≢ i → get_elem? vs j ≡ some v → P v) → (j : ℕ) (v : V) → get_elem? (set vs i w) j ≡ some v → P v
  each_set P vs i w mine others j v e = ⊎_elim (λ (t : (j ≡ i) × (w ≡ v)). subst P t.1 mine) (λ (t : (j ≢ i) × (get_elem? vs j ≡ some v)). others j v t.0 t.1) (at_set vs i j w v e)

module _ {S O A : Type 0} (origin : S → O) (acts : S → List A) (names : A → List ℕ) where
  pub works_le : (served : ℕ) (log : List A) (p : Phase A) → Turns origin acts names served log p → works p ≤ has_ticket served p
  works_le served log Out k = omega arith
  works_le served log (Waiting t) k = omega arith
  works_le served log (Turn t found) k = let one = one_if_eq t served k.0 in omega arith
  works_le served log (Committed t found a) k = let one = one_if_eq t served k.0 in omega arith

  -- a pass that doesn't work says nothing of the ticket that is served, or of the history
  pub idle_turns : (served served' : ℕ) (log log' : List A) (p : Phase A) → works p ≡ 0 → Turns origin acts names served log p → Turns origin acts names served' log' p
  idle_turns served served' log log' Out z k = tt
  idle_turns served served' log log' (Waiting t) z k = tt
  idle_turns served served' log log' (Turn t found) z k = absurd (omega arith)
  idle_turns served served' log log' (Committed t found a) z k = absurd (omega arith)

  -- what is given back is the history, by the pass whose ticket is served
  pub gives_all : (served : ℕ) (log left : List A) (p : Phase A) → GivesBack p left → Turns origin acts names served log p → (left ≡ log) × (works p ≡ 1) × (waits p ≡ 1) × ((t : ℕ) → has_ticket t p ≡ one_if (eqb served t))
  gives_all served log left Out l k = absurd l
  gives_all served log left (Waiting t) l k = absurd l
  gives_all served log left (Turn t found) l k = (l ∙ k.1, refl, refl, λ u. ap (λ (z : ℕ). one_if (eqb z u)) k.0)
  gives_all served log left (Committed t found a) l k = (l ∙ k.1, refl, refl, λ u. ap (λ (z : ℕ). one_if (eqb z u)) k.0)

  pub at_home : (o : O) (hs : List (Option S)) (log : List A) (busy : ℕ) → Slot origin acts names hs log o busy → busy ≡ 0 → (y : S) × (hs ≡ some y ∷ []) × (origin y ≡ o) × (acts y ≡ log)
  at_home o [] log busy k z = absurd k
  at_home o (some x ∷ []) log busy k z = (x, refl, k.0, k.1)
  at_home o (none ∷ []) log busy k z = absurd (omega arith)
  at_home o (x ∷ y ∷ zs) log busy k z = absurd k

  pub away : (o : O) (hs : List (Option S)) (log : List A) (busy : ℕ) → Slot origin acts names hs log o busy → 0 < busy → (hs ≡ none ∷ []) × (busy ≡ 1)
  away o [] log busy k z = absurd k
  away o (some x ∷ []) log busy k z = let e = k.2 in absurd (omega arith)
  away o (none ∷ []) log busy k z = (refl, k)
  away o (x ∷ y ∷ zs) log busy k z = absurd k

module _ {S O A : Type 0} (origin : S → O) (acts : S → List A) (names : A → List ℕ) (n : ℕ) (o : O) (s : State S (View O A)) (r : Kept origin acts names n o s) where
  -- a pass with a ticket, and the tickets that are out
  pub in_line : (id : ℕ) (v : View O A) (t : ℕ) → get_elem? s.views id ≡ some v → has_ticket t v.phase ≡ 1 → (r.served ≤ t) × (t < r.served + total waiting s.views)
  in_line id v t at one = let b = at_le_total (ticket t) s.views id v at in let k = r.tickets t in between_in r.served (r.served + total waiting s.views) t (omega arith)

  pub few_wait : total waiting s.views < 2 ^ 32
  few_wait = let b = total_le waiting lane_count s.views (λ i v e. (r.each i v e).1) in let all = r.all in let few = r.few in omega arith

  pub once_below : (k : ℕ) → total (lane k) s.views ≤ 1
  once_below k = let a = r.once k in let b = between_le 0 n k in omega arith

  -- while one pass works the slot is out, and no other works
  pub slot_out : (id : ℕ) (v : View O A) → get_elem? s.views id ≡ some v → works v.phase ≡ 1 → (s.homes ≡ none ∷ []) × (total working s.views ≡ 1)
  slot_out id v at busy = away origin acts names o s.homes r.log (total working s.views) r.slot (let b = at_le_total working s.views id v at in omega arith)

  pub alone : (id : ℕ) (v : View O A) → get_elem? s.views id ≡ some v → works v.phase ≡ 1 → (j : ℕ) (u : View O A) → j ≢ id → get_elem? s.views j ≡ some u → works u.phase ≡ 0
  alone id v at busy j u other there = let one = (slot_out id v at busy).1 in let b = total_two working s.views j id u v other there at in omega arith
