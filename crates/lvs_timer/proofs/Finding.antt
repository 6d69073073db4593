-- The element that a test finds, and members of lists.
use Rattle.std.proofs.Common.{◌≡◌, ℕ, ◌+◌, ◌≤◌, Bool, true, false, cond, List, [], ◌∷◌, ◌++◌, Option, Some, refl, sym, ◌∙◌, ap, arith, count_by, inl, inr, ◌⊎◌}
use Rattle.std.specs.List.{AllByRecursion, find}
use Rattle.std.proofs.lemmas.List.Sums.{sum_by-cons}
use Rattle.lvs_model.proofs.OrderLemmas.{Has, none_counted}

found_cons : {X : Type 0} (p : X → Bool) (t u : X) (ts : List X) (o : Option X) (b : Bool) → p u ≡ b → (o ≡ Some t → (p t ≡ true) × Has t ts) → cond b (Some u) o ≡ Some t → (p t ≡ true) × Has t (u ∷ ts)
found_cons p t u ts o true is later found = let same : u ≡ t = cc in (sym (ap p same) ∙ is, inl same)
found_cons p t u ts o false is later found = let rest = later found in (rest.0, inr rest.1)

pub found_has : {X : Type 0} (p : X → Bool) (t : X) (ts : List X) → find p ts ≡ Some t → (p t ≡ true) × Has t ts
found_has p t [] found = absurd (cc)
found_has p t (u ∷ ts) found = found_cons p t u ts (find p ts) (p u) refl (found_has p t ts) found

clash : (b : Bool) → b ≡ true → b ≡ false → ⊥
clash true one two = absurd (cc)
clash false one two = absurd (cc)

fails_has : {X : Type 0} (p : X → Bool) (t : X) (ts : List X) → AllByRecursion (λ u. p u ≡ false) ts → Has t ts → p t ≡ false
fails_has p t [] fails has = absurd has
fails_has p t (u ∷ ts) fails (inl is) = ap p (sym is) ∙ fails.0
fails_has p t (u ∷ ts) fails (inr has) = fails_has p t ts fails.1 has

find_cons : {X : Type 0} (p : X → Bool) (t u : X) (ts : List X) (b : Bool) → p u ≡ b → p t ≡ true → cond {A = ℕ} b 1 0 + count_by p ts ≤ 1 → (Has t ts → find p ts ≡ Some t) → (u ≡ t) ⊎ Has t ts → cond b (Some u) (find p ts) ≡ Some t
find_cons p t u ts true is passes once later (inl same) = ap (λ x. Some x) same
find_cons p t u ts true is passes once later (inr has) = absurd (clash (p t) passes (fails_has p t ts (none_counted p ts (omega arith)) has))
find_cons p t u ts false is passes once later (inl same) = absurd (clash (p u) (ap p same ∙ passes) is)
find_cons p t u ts false is passes once later (inr has) = later has

pub find_has : {X : Type 0} (p : X → Bool) (t : X) (ts : List X) → p t ≡ true → count_by p ts ≤ 1 → Has t ts → find p ts ≡ Some t
find_has p t [] passes once has = absurd has
find_has p t (u ∷ ts) passes once has =
    let whole = sum_by-cons (λ v. cond {A = ℕ} (p v) 1 0) u ts in
    let few : cond {A = ℕ} (p u) 1 0 + count_by p ts ≤ 1 = omega arith in
    find_cons p t u ts (p u) refl passes few (find_has p t ts passes (omega arith)) has

pub has_front : {X : Type 0} (t : X) (xs ys : List X) → Has t xs → Has t (xs ++ ys)
has_front t [] ys has = absurd has
has_front t (x ∷ xs) ys (inl is) = inl is
has_front t (x ∷ xs) ys (inr has) = inr (has_front t xs ys has)

pub has_back : {X : Type 0} (t : X) (xs ys : List X) → Has t ys → Has t (xs ++ ys)
has_back t [] ys has = has
has_back t (x ∷ xs) ys has = inr (has_back t xs ys has)
