-- The lanes of a view, and their acts.
use Rattle.std.proofs.Common.{◌≡◌, ℕ, zero, suc, ◌+◌, ◌<◌, ◌≤◌, eq-eqb, List, [], ◌∷◌, ◌++◌, length, refl, sym, ap, ◌∙◌, subst, arith, cond}
use mathlib.Core.Bool.{Bool, true, false, ◌||◌}
use Rattle.std.specs.Prelude.{filter}
use Rattle.lvs_book.proofs.Sums.{one_if_eq, between_none, between_first}
use Rattle.lvs_book.specs.Lanes.{stands, times, numbers, grown, new_lanes, AllFrom, FirstFrom, Own, Within, first_lane, other_lanes}
use Rattle.lvs_book.specs.Sums.{between}
use Rattle.lvs_book.specs.declared.view.Lane.{Lane}

pub times_one : (k : ℕ) (xs : List ℕ) → 0 < times k xs → stands k xs ≡ true
times_one k [] h = absurd (omega arith)
times_one k (x ∷ xs) h = grind (arith, times_one k xs)

pub times_none : (k : ℕ) (xs : List ℕ) → times k xs ≡ 0 → stands k xs ≡ false
times_none k [] h = refl
times_none k (x ∷ xs) h = grind (arith, times_none k xs)

pub stands_some : (k : ℕ) (xs : List ℕ) → stands k xs ≡ true → 0 < times k xs
stands_some k [] e = grind arith
stands_some k (x ∷ xs) e = grind (arith, stands_some k xs)

pub times_append : (k : ℕ) (xs ys : List ℕ) → times k (xs ++ ys) ≡ times k xs + times k ys
times_append k [] ys = omega arith
times_append k (x ∷ xs) ys = omega (arith, times_append k xs ys)

module _ {A : Type 0} where
  append_nil : (l : List A) → l ++ [] ≡ l
  append_nil [] = refl
  append_nil (x ∷ xs) = ap (λ (z : List A). x ∷ z) (append_nil xs)

module _ {O A : Type 0} where
  pub numbers_grown : (a : A) (ls : List (Lane O A)) → numbers (grown a ls) ≡ numbers ls
  numbers_grown a [] = refl
  numbers_grown a (x ∷ xs) = ap (λ (z : List ℕ). x.number ∷ z) (numbers_grown a xs)

  pub grown_length : (a : A) (ls : List (Lane O A)) → length (grown a ls) ≡ length ls
  grown_length a [] = refl
  grown_length a (x ∷ xs) = ap suc (grown_length a xs)

module _ {A : Type 0} where
  filter_snoc : (p : A → Bool) (l : List A) (a : A) (b : Bool) → p a ≡ b → filter p (l ++ a ∷ []) ≡ filter p l ++ cond b (a ∷ []) []
  filter_snoc p [] a b e = subst (λ (z : Bool). cond z (a ∷ []) [] ≡ cond b (a ∷ []) []) (sym e) refl
  filter_snoc p (x ∷ xs) a b e = filter_cons p x xs a b (p x) (filter_snoc p xs a b e)
    where
      filter_cons : (p : A → Bool) (x : A) (xs : List A) (a : A) (b c : Bool) → filter p (xs ++ a ∷ []) ≡ filter p xs ++ cond b (a ∷ []) [] → cond c (x ∷ filter p (xs ++ a ∷ [])) (filter p (xs ++ a ∷ [])) ≡ cond c (x ∷ filter p xs) (filter p xs) ++ cond b (a ∷ []) []
      filter_cons p x xs a b true h = ap (λ (z : List A). x ∷ z) h
      filter_cons p x xs a b false h = h

module _ {A : Type 0} (names : A → List ℕ) (n : ℕ) where
  pub within_more : (log : List A) (a : A) → Within names n log → ((k : ℕ) → stands k (names a) ≡ true → k < n) → (k : ℕ) → stands k (names a) ≡ true → Within names n (log ++ a ∷ [])
  within_more [] a within below k some_lane = (below, (k, some_lane), tt)
  within_more (x ∷ xs) a within below k some_lane = (within.0, within.1, within_more xs a within.2 below k some_lane)

module _ {O A : Type 0} (names : A → List ℕ) where
  pub some_number : (ls : List (Lane O A)) → 0 < length ls → (k : ℕ) × (stands k (numbers ls) ≡ true)
  some_number [] h = absurd (omega arith)
  some_number (x ∷ xs) h = (x.number, ap (λ (b : Bool). b || stands x.number (numbers xs)) (eq-eqb x.number x.number refl))

  pub own_grown : (a : A) (log : List A) (ls : List (Lane O A)) → ((k : ℕ) → 0 < times k (numbers ls) → stands k (names a) ≡ true) → Own names log ls → Own names (log ++ a ∷ []) (grown a ls)
  own_grown a log [] h own = tt
  own_grown a log (x ∷ xs) h own = (ap (λ (l : List A). l ++ a ∷ []) own.0 ∙ sym (filter_snoc (λ b. stands x.number (names b)) log a true (h x.number (let o = one_if_eq x.number x.number refl in omega arith))), own_grown a log xs (λ k p. h k (omega arith)) own.1)

  pub own_others : (a : A) (log : List A) (ls : List (Lane O A)) → ((k : ℕ) → 0 < times k (numbers ls) → stands k (names a) ≡ false) → Own names log ls → Own names (log ++ a ∷ []) ls
  own_others a log [] h own = tt
  own_others a log (x ∷ xs) h own = (own.0 ∙ sym (filter_snoc (λ b. stands x.number (names b)) log a false (h x.number (let o = one_if_eq x.number x.number refl in omega arith)) ∙ append_nil (filter (λ b. stands x.number (names b)) log)), own_others a log xs (λ k p. h k (omega arith)) own.1)

  pub own_first : (log : List A) (ls : List (Lane O A)) → Own names log ls → Own names log (first_lane ls)
  own_first log [] own = tt
  own_first log (x ∷ xs) own = (own.0, tt)

  pub own_rest : (log : List A) (ls : List (Lane O A)) → Own names log ls → Own names log (other_lanes ls)
  own_rest log [] own = tt
  own_rest log (x ∷ xs) own = own.1

  pub own_append : (log : List A) (ls ms : List (Lane O A)) → Own names log ls → Own names log ms → Own names log (ls ++ ms)
  own_append log [] ms own more = more
  own_append log (x ∷ xs) ms own more = (own.0, own_append log xs ms own.1 more)

  pub own_new : (o : O) (k m : ℕ) → Own names [] (new_lanes o k m)
  own_new o k zero = tt
  own_new o k (suc m) = (refl, own_new o (suc k) m)

module _ {O A : Type 0} where
  pub cut_times : (k : ℕ) (ls : List (Lane O A)) → times k (numbers (first_lane ls)) + times k (numbers (other_lanes ls)) ≡ times k (numbers ls)
  cut_times k [] = refl
  cut_times k (x ∷ xs) = omega arith

  pub cut_length : (ls : List (Lane O A)) → length (first_lane ls) + length (other_lanes ls) ≡ length ls
  cut_length [] = refl
  cut_length (x ∷ xs) = omega arith

  pub join_times : (k : ℕ) (ls ms : List (Lane O A)) → times k (numbers (ls ++ ms)) + 0 ≡ times k (numbers ls) + times k (numbers ms)
  join_times k [] ms = omega arith
  join_times k (x ∷ xs) ms = omega (arith, join_times k xs ms)

  pub times_le_length : (k : ℕ) (ls : List (Lane O A)) → times k (numbers ls) ≤ length ls
  times_le_length k [] = omega arith
  times_le_length k (x ∷ xs) = grind (arith, times_le_length k xs)

module _ {O A : Type 0} where
  pub of_first : (o : O) (ls : List (Lane O A)) → AllFrom o ls → AllFrom o (first_lane ls)
  of_first o [] h = tt
  of_first o (x ∷ xs) h = (h.0, tt)

  pub of_rest : (o : O) (ls : List (Lane O A)) → AllFrom o ls → AllFrom o (other_lanes ls)
  of_rest o [] h = tt
  of_rest o (x ∷ xs) h = h.1

  pub of_append : (o : O) (ls ms : List (Lane O A)) → AllFrom o ls → AllFrom o ms → AllFrom o (ls ++ ms)
  of_append o [] ms h more = more
  of_append o (x ∷ xs) ms h more = (h.0, of_append o xs ms h.1 more)

  pub of_grown : (o : O) (a : A) (ls : List (Lane O A)) → AllFrom o ls → AllFrom o (grown a ls)
  of_grown o a [] h = tt
  of_grown o a (x ∷ xs) h = (h.0, of_grown o a xs h.1)

  pub of_first_from : (o o' : O) (ls : List (Lane O A)) → FirstFrom o' ls → AllFrom o ls → o ≡ o'
  of_first_from o o' [] start h = absurd start
  of_first_from o o' (x ∷ xs) start h = sym h.0 ∙ start

  pub of_one : (o o' : O) (ls : List (Lane O A)) → 0 < length ls → AllFrom o ls → AllFrom o' ls → o ≡ o'
  of_one o o' [] some_lane h h' = absurd (omega arith)
  of_one o o' (x ∷ xs) some_lane h h' = sym h.0 ∙ h'.0

module _ {O : Type 0} (A : Type 0) (o : O) where
  pub new_times : (k m i : ℕ) → times i (numbers (new_lanes {A = A} o k m)) ≡ between k (k + m) i
  new_times k zero i = sym (ap (λ (z : ℕ). between k z i) (let e : k + 0 ≡ k = omega arith in e) ∙ between_none k i)
  new_times k (suc m) i = let e : suc k + m ≡ k + suc m = omega arith in let f = new_times (suc k) m i in
      let g : times i (numbers (new_lanes {A = A} o (suc k) m)) ≡ between (suc k) (k + suc m) i = f ∙ ap (λ (z : ℕ). between (suc k) z i) e in
      let b = between_first k (k + suc m) i (omega arith) in omega arith

  pub new_length : (k m : ℕ) → length (new_lanes {A = A} o k m) ≡ m
  new_length k zero = refl
  new_length k (suc m) = ap suc (new_length (suc k) m)

  pub of_new : (k m : ℕ) → AllFrom {A = A} o (new_lanes o k m)
  of_new k zero = tt
  of_new k (suc m) = (refl, of_new (suc k) m)
