-- Lists whose keys are apart, through the edits that the definitions make.
use Rattle.std.proofs.Common.{◌≡◌, Bool, true, false, cond, not, List, [], ◌∷◌, ◌++◌, Option, Some, None, refl, sym, ap, subst, map}
use Rattle.std.specs.List.{AllByRecursion, IsDistinct, find, filter, filter_map, cons_option}
use Rattle.lvs_model.specs.Lists.{update_first}
use Rattle.lvs_well_formed.proofs.Lists.{all_weaker, all_both, all_map, all_unmap, all_append, all_filter, all_filter_map, all_find}

pub distinct_none : {K : Type 0} (eq : K → K → Bool) → IsDistinct eq []
unfolding IsDistinct
distinct_none eq = tt

pub distinct_parts : {K : Type 0} (eq : K → K → Bool) (k : K) (ks : List K) → IsDistinct eq (k ∷ ks) → AllByRecursion (λ other. eq k other ≡ false) ks × IsDistinct eq ks
unfolding IsDistinct
distinct_parts eq k ks apart = (apart.0, apart.1)

pub distinct_cons : {K : Type 0} (eq : K → K → Bool) (k : K) (ks : List K) → AllByRecursion (λ other. eq k other ≡ false) ks → IsDistinct eq ks → IsDistinct eq (k ∷ ks)
unfolding IsDistinct
distinct_cons eq k ks first rest = (first, rest)

-- one more key that is apart from each
pub distinct_push : {X K : Type 0} (eq : K → K → Bool) (key : X → K) (xs : List X) (y : X) → AllByRecursion (λ x. eq (key x) (key y) ≡ false) xs → IsDistinct eq (map key xs) → IsDistinct eq (map key (xs ++ y ∷ []))
distinct_push eq key [] y new apart = distinct_cons eq (key y) [] tt apart
distinct_push eq key (x ∷ xs) y new apart =
    let parts = distinct_parts eq (key x) (map key xs) apart in
    distinct_cons eq (key x) (map key (xs ++ y ∷ []))
    (all_map (λ k. eq (key x) k ≡ false) key (xs ++ y ∷ []) (all_append (λ z. eq (key x) (key z) ≡ false) xs (y ∷ []) (all_unmap (λ k. eq (key x) k ≡ false) key xs parts.0) (new.0, tt)))
    (distinct_push eq key xs y new.1 parts.1)

pub distinct_filter : {X K : Type 0} (eq : K → K → Bool) (key : X → K) (p : X → Bool) (xs : List X) → IsDistinct eq (map key xs) → IsDistinct eq (map key (filter p xs))
distinct_filter eq key p [] apart = apart
distinct_filter eq key p (x ∷ xs) apart =
    let parts = distinct_parts eq (key x) (map key xs) apart in
    let rest = distinct_filter eq key p xs parts.1 in
    let first = all_map (λ k. eq (key x) k ≡ false) key (filter p xs) (all_filter (λ z. eq (key x) (key z) ≡ false) p xs (all_unmap (λ k. eq (key x) k ≡ false) key xs parts.0)) in
    let Q : Bool → Type 0 = λ b. IsDistinct eq (map key (cond b (x ∷ filter p xs) (filter p xs))) in
    elim (p x) as Q [ true ↦ distinct_cons eq (key x) (map key (filter p xs)) first rest | false ↦ rest ]

distinct_option : {X K : Type 0} (eq : K → K → Bool) (key : X → K) (o : Option X) (k : K) (ys : List X) → ((y : X) → o ≡ Some y → key y ≡ k) → AllByRecursion (λ y. eq k (key y) ≡ false) ys → IsDistinct eq (map key ys) → IsDistinct eq (map key (cons_option o ys))
distinct_option eq key None k ys same first rest = rest
distinct_option eq key (Some y) k ys same first rest =
    distinct_cons eq (key y) (map key ys) (all_map (λ other. eq (key y) other ≡ false) key ys (subst (λ other. AllByRecursion (λ z. eq other (key z) ≡ false) ys) (sym (same y refl)) first)) rest

pub distinct_filter_map : {X K : Type 0} (eq : K → K → Bool) (key : X → K) (h : X → Option X) (xs : List X) → ((x y : X) → h x ≡ Some y → key y ≡ key x) → IsDistinct eq (map key xs) → IsDistinct eq (map key (filter_map h xs))
distinct_filter_map eq key h [] same apart = apart
distinct_filter_map eq key h (x ∷ xs) same apart =
    let parts = distinct_parts eq (key x) (map key xs) apart in
    let apart_from = all_unmap (λ k. eq (key x) k ≡ false) key xs parts.0 in
    distinct_option eq key (h x) (key x) (filter_map h xs) (same x)
    (all_filter_map (λ z. eq (key x) (key z) ≡ false) (λ z. eq (key x) (key z) ≡ false) h xs (λ z y is here. subst (λ k. eq (key x) k ≡ false) (sym (same z y is)) here) apart_from)
    (distinct_filter_map eq key h xs same parts.1)

-- an update that keeps the key keeps all keys
pub keys_update : {X K : Type 0} (key : X → K) (p : X → Bool) (f : X → X) (xs : List X) → ((x : X) → p x ≡ true → key (f x) ≡ key x) → map key (update_first p f xs) ≡ map key xs
keys_update key p f [] same = refl
keys_update key p f (x ∷ xs) same =
    let Q : Bool → Type 0 = λ b. (b ≡ true → key (f x) ≡ key x) → map key (cond b (f x ∷ xs) (x ∷ update_first p f xs)) ≡ key x ∷ map key xs in
    (elim (p x) as Q [ true ↦ (λ here. ap (λ k. k ∷ map key xs) (here refl)) | false ↦ (λ here. ap (λ ks. key x ∷ ks) (keys_update key p f xs same)) ]) (same x)

-- the element that is found is replaced by one of its key
pub keys_put : {X K : Type 0} (key : X → K) (p : X → Bool) (v : X) (xs : List X) (x : X) → find p xs ≡ Some x → key v ≡ key x → map key (update_first p (λ _. v) xs) ≡ map key xs
keys_put key p v [] x found same = absurd cc
keys_put key p v (y ∷ ys) x found same =
    let Q : Bool → Type 0 = λ b. cond b (Some y) (find p ys) ≡ Some x → map key (cond b (v ∷ ys) (y ∷ update_first p (λ _. v) ys)) ≡ key y ∷ map key ys in
    (elim (p y) as Q [ true ↦ (λ is. let here : y ≡ x = cc in let keys : key v ≡ key y = subst (λ z. key v ≡ key z) (sym here) same in ap (λ k. k ∷ map key ys) keys) | false ↦ (λ is. ap (λ ks. key y ∷ ks) (keys_put key p v ys x is same)) ]) found

-- each element is the one that is found by its key
itself_step : {X : Type 0} (b : Bool) (x y : X) (o : Option X) → b ≡ false → o ≡ Some y → cond b (Some x) o ≡ Some y
itself_step true x y o differs is = absurd cc
itself_step false x y o differs is = is

found_here : {X : Type 0} (b : Bool) (x : X) (o : Option X) → b ≡ true → cond b (Some x) o ≡ Some x
found_here true x o same = refl
found_here false x o same = absurd cc

pub each_found : {X K : Type 0} (eq : K → K → Bool) (key : X → K) (xs : List X) → ((k : K) → eq k k ≡ true) → IsDistinct eq (map key xs) → AllByRecursion (λ x. find (λ y. eq (key y) (key x)) xs ≡ Some x) xs
each_found eq key [] same apart = tt
each_found eq key (x ∷ xs) same apart =
    let parts = distinct_parts eq (key x) (map key xs) apart in (
      found_here (eq (key x) (key x)) x (find (λ y. eq (key y) (key x)) xs) (same (key x)),
      all_both (λ z. eq (key x) (key z) ≡ false) (λ z. find (λ y. eq (key y) (key z)) xs ≡ Some z) (λ z. find (λ y. eq (key y) (key z)) (x ∷ xs) ≡ Some z) xs
          (λ z differs is. itself_step (eq (key x) (key z)) x z (find (λ y. eq (key y) (key z)) xs) differs is)
          (all_unmap (λ k. eq (key x) k ≡ false) key xs parts.0) (each_found eq key xs same parts.1),
    )

-- once the one that passes has left, the keys of the others are apart from its key
pub others_apart : {X K : Type 0} (eq : K → K → Bool) (key : X → K) (p : X → Bool) (xs : List X) (x : X) → ((a b : K) → eq a b ≡ false → eq b a ≡ false) → IsDistinct eq (map key xs) → find p xs ≡ Some x
    → AllByRecursion (λ z. eq (key z) (key x) ≡ false) (filter (λ z. not (p z)) xs)
others_apart eq key p [] x flip apart found = tt
others_apart eq key p (y ∷ ys) x flip apart found =
    let parts = distinct_parts eq (key y) (map key ys) apart in
    let differ = all_unmap (λ k. eq (key y) k ≡ false) key ys parts.0 in
    let M : Bool → Type 0 = λ b. cond b (Some y) (find p ys) ≡ Some x → AllByRecursion (λ z. eq (key z) (key x) ≡ false) (cond (not b) (y ∷ filter (λ z. not (p z)) ys) (filter (λ z. not (p z)) ys)) in
    (elim (p y) as M [
      | true ↦ (λ here.
          let same : y ≡ x = cc in
          all_filter (λ z. eq (key z) (key x) ≡ false) (λ z. not (p z)) ys
          (all_weaker (λ z. eq (key y) (key z) ≡ false) (λ z. eq (key z) (key x) ≡ false) ys (λ z other. subst (λ w. eq (key z) (key w) ≡ false) same (flip (key y) (key z) other)) differ))
      | false ↦ (λ later. (all_find (λ z. eq (key y) (key z) ≡ false) p ys x differ later, others_apart eq key p ys x flip parts.1 later))
    ]) found
