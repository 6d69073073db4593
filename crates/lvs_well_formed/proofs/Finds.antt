-- What is found in a list after an edit.
use Rattle.std.proofs.Common.{◌≡◌, Bool, true, false, cond, List, [], ◌∷◌, ◌++◌, Option, Some, None, refl, sym, ap, subst}
use Rattle.std.specs.List.{AllByRecursion, find, filter, filter_map, cons_option}
use Rattle.lvs_model.specs.Lists.{update_first}

-- where the first one that passes stands, by cases
pub find_cases : {X : Type 0} (b : Bool) (x y : X) (o : Option X) (Q : Type 0) → cond b (Some y) o ≡ Some x → (b ≡ true → y ≡ x → Q) → (b ≡ false → o ≡ Some x → Q) → Q
find_cases true x y o Q is here there = here refl (cc)
find_cases false x y o Q is here there = there refl is

at_true : {X : Type 0} (b : Bool) (x y : X) (o : Option X) → b ≡ true → y ≡ x → cond b (Some y) o ≡ Some x
at_true true x y o is same = ap (λ z. Some z) same
at_true false x y o is same = absurd cc

at_false : {X : Type 0} (b : Bool) (x y : X) (o : Option X) → b ≡ false → o ≡ Some x → cond b (Some y) o ≡ Some x
at_false true x y o is same = absurd cc
at_false false x y o is same = same

pub find_push : {X : Type 0} (p : X → Bool) (xs : List X) (x y : X) → find p xs ≡ Some x → find p (xs ++ y ∷ []) ≡ Some x
find_push p [] x y found = absurd cc
find_push p (z ∷ zs) x y found =
    find_cases (p z) x z (find p zs) (cond (p z) (Some z) (find p (zs ++ y ∷ [])) ≡ Some x) found
    (λ is same. at_true (p z) x z (find p (zs ++ y ∷ [])) is same)
    (λ is later. at_false (p z) x z (find p (zs ++ y ∷ [])) is (find_push p zs x y later))

-- none of the others passes: the last one is found
pub find_last : {X : Type 0} (p : X → Bool) (xs : List X) (y : X) → AllByRecursion (λ x. p x ≡ false) xs → p y ≡ true → find p (xs ++ y ∷ []) ≡ Some y
find_last p [] y none here = at_true (p y) y y None here refl
find_last p (z ∷ zs) y none here = at_false (p z) y z (find p (zs ++ y ∷ [])) none.0 (find_last p zs y none.1 here)

-- what is found and stays is found among those that stay
pub find_filter : {X : Type 0} (p q : X → Bool) (xs : List X) (x : X) → find p xs ≡ Some x → q x ≡ true → find p (filter q xs) ≡ Some x
find_filter p q [] x found stays = absurd cc
find_filter p q (z ∷ zs) x found stays =
    find_cases (p z) x z (find p zs) (find p (cond (q z) (z ∷ filter q zs) (filter q zs)) ≡ Some x) found
    (λ is same.
    let here : q z ≡ true = subst (λ y. q y ≡ true) (sym same) stays in
    let M : Bool → Type 0 = λ b. b ≡ true → find p (cond b (z ∷ filter q zs) (filter q zs)) ≡ Some x in
    (elim (q z) as M [ true ↦ (λ _. at_true (p z) x z (find p (filter q zs)) is same) | false ↦ (λ no_match. absurd cc) ]) here)
    (λ is later.
    let rest = find_filter p q zs x later stays in
    let M : Bool → Type 0 = λ b. find p (cond b (z ∷ filter q zs) (filter q zs)) ≡ Some x in
    elim (q z) as M [ true ↦ at_false (p z) x z (find p (filter q zs)) is rest | false ↦ rest ])

kept_option : {X : Type 0} (p : X → Bool) (o : Option X) (ys : List X) (y : X) → ((z : X) → o ≡ Some z → p z ≡ false) → find p ys ≡ Some y → find p (cons_option o ys) ≡ Some y
kept_option p None ys y differs found = found
kept_option p (Some z) ys y differs found = at_false (p z) y z (find p ys) (differs z refl) found

here_option : {X : Type 0} (p : X → Bool) (o : Option X) (ys : List X) (y : X) → o ≡ Some y → p y ≡ true → find p (cons_option o ys) ≡ Some y
here_option p None ys y is passes = absurd cc
here_option p (Some z) ys y is passes = let same : z ≡ y = cc in at_true (p z) y z (find p ys) (subst (λ x. p x ≡ true) (sym same) passes) same

-- what is found, and becomes another that passes, is found as that
pub find_filter_map : {X : Type 0} (p : X → Bool) (h : X → Option X) (xs : List X) (x y : X) → ((a b : X) → h a ≡ Some b → p b ≡ p a) → find p xs ≡ Some x → h x ≡ Some y → find p (filter_map h xs) ≡ Some y
find_filter_map p h [] x y same found becomes = absurd cc
find_filter_map p h (z ∷ zs) x y same found becomes =
    find_cases (p z) x z (find p zs) (find p (cons_option (h z) (filter_map h zs)) ≡ Some y) found
    (λ is here.
    let becomes_here : h z ≡ Some y = subst (λ a. h a ≡ Some y) (sym here) becomes in
    here_option p (h z) (filter_map h zs) y becomes_here (let kept = same z y becomes_here in cc))
    (λ is later. kept_option p (h z) (filter_map h zs) y (λ b becomes_b. let kept = same z b becomes_b in cc) (find_filter_map p h zs x y same later becomes))

-- the one that is found is replaced by one that passes
pub find_put : {X : Type 0} (p : X → Bool) (v : X) (xs : List X) (x : X) → find p xs ≡ Some x → p v ≡ true → find p (update_first p (λ _. v) xs) ≡ Some v
find_put p v [] x found passes = absurd cc
find_put p v (z ∷ zs) x found passes =
    let M : Bool → Type 0 = λ b. p z ≡ b → cond b (Some z) (find p zs) ≡ Some x → find p (cond b (v ∷ zs) (z ∷ update_first p (λ _. v) zs)) ≡ Some v in
    (elim (p z) as M [ true ↦ (λ is found_here. at_true (p v) v v (find p zs) passes refl) | false ↦ (λ is later. at_false (p z) v z (find p (update_first p (λ _. v) zs)) is (find_put p v zs x later passes)) ]) refl found
