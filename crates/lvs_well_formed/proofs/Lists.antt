-- What holds of each element of a list, through the edits that the definitions make.
use Rattle.std.proofs.Common.{◌≡◌, ℕ, Bool, true, false, cond, ◌||◌, List, [], ◌∷◌, ◌++◌, Option, Some, None, refl, subst, slice_get, map, zero, suc}
use Rattle.std.specs.List.{AllByRecursion, find, filter, filter_map, cons_option, list_any}
use Rattle.lvs_model.specs.Lists.{update_first}

pub all_weaker : {X : Type 0} (P Q : X → Type 0) (xs : List X) → ((x : X) → P x → Q x) → AllByRecursion P xs → AllByRecursion Q xs
all_weaker P Q [] step each = tt
all_weaker P Q (x ∷ xs) step each = (step x each.0, all_weaker P Q xs step each.1)

pub all_true : {X : Type 0} (P : X → Type 0) (xs : List X) → ((x : X) → P x) → AllByRecursion P xs
all_true P [] step = tt
all_true P (x ∷ xs) step = (step x, all_true P xs step)

pub all_both : {X : Type 0} (P Q R : X → Type 0) (xs : List X) → ((x : X) → P x → Q x → R x) → AllByRecursion P xs → AllByRecursion Q xs → AllByRecursion R xs
all_both P Q R [] step each also = tt
all_both P Q R (x ∷ xs) step each also = (step x each.0 also.0, all_both P Q R xs step each.1 also.1)

pub all_map : {X Y : Type 0} (P : Y → Type 0) (f : X → Y) (xs : List X) → AllByRecursion (λ x. P (f x)) xs → AllByRecursion P (map f xs)
all_map P f [] each = tt
all_map P f (x ∷ xs) each = (each.0, all_map P f xs each.1)

pub all_unmap : {X Y : Type 0} (P : Y → Type 0) (f : X → Y) (xs : List X) → AllByRecursion P (map f xs) → AllByRecursion (λ x. P (f x)) xs
all_unmap P f [] each = tt
all_unmap P f (x ∷ xs) each = (each.0, all_unmap P f xs each.1)

pub all_append : {X : Type 0} (P : X → Type 0) (xs ys : List X) → AllByRecursion P xs → AllByRecursion P ys → AllByRecursion P (xs ++ ys)
all_append P [] ys first then = then
all_append P (x ∷ xs) ys first then = (first.0, all_append P xs ys first.1 then)

pub all_push : {X : Type 0} (P : X → Type 0) (xs : List X) (y : X) → AllByRecursion P xs → P y → AllByRecursion P (xs ++ y ∷ [])
all_push P xs y each here = all_append P xs (y ∷ []) each (here, tt)

pub all_filter : {X : Type 0} (P : X → Type 0) (p : X → Bool) (xs : List X) → AllByRecursion P xs → AllByRecursion P (filter p xs)
all_filter P p [] each = tt
all_filter P p (x ∷ xs) each =
    let Q : Bool → Type 0 = λ b. AllByRecursion P (cond b (x ∷ filter p xs) (filter p xs)) in
    elim (p x) as Q [ true ↦ (each.0, all_filter P p xs each.1) | false ↦ all_filter P p xs each.1 ]

-- those that stay pass the test
pub all_passing : {X : Type 0} (P Q : X → Type 0) (p : X → Bool) (xs : List X) → ((x : X) → p x ≡ true → P x → Q x) → AllByRecursion P xs → AllByRecursion Q (filter p xs)
all_passing P Q p [] step each = tt
all_passing P Q p (x ∷ xs) step each =
    let M : Bool → Type 0 = λ b. (b ≡ true → P x → Q x) → AllByRecursion Q (cond b (x ∷ filter p xs) (filter p xs)) in
    (elim (p x) as M [ true ↦ (λ here. (here refl each.0, all_passing P Q p xs step each.1)) | false ↦ (λ here. all_passing P Q p xs step each.1) ]) (step x)

pub all_filtered : {X : Type 0} (Q : X → Type 0) (p : X → Bool) (xs : List X) → ((x : X) → p x ≡ true → Q x) → AllByRecursion Q (filter p xs)
all_filtered Q p xs step = all_passing (λ _. Unit {0}) Q p xs (λ x here _. step x here) (all_true (λ _. Unit {0}) xs (λ _. tt))

all_cons_option : {X : Type 0} (P : X → Type 0) (o : Option X) (xs : List X) → ((y : X) → o ≡ Some y → P y) → AllByRecursion P xs → AllByRecursion P (cons_option o xs)
all_cons_option P None xs here each = each
all_cons_option P (Some y) xs here each = (here y refl, each)

pub all_filter_map : {X Y : Type 0} (P : X → Type 0) (Q : Y → Type 0) (h : X → Option Y) (xs : List X) → ((x : X) (y : Y) → h x ≡ Some y → P x → Q y) → AllByRecursion P xs → AllByRecursion Q (filter_map h xs)
all_filter_map P Q h [] step each = tt
all_filter_map P Q h (x ∷ xs) step each = all_cons_option Q (h x) (filter_map h xs) (λ y is. step x y is each.0) (all_filter_map P Q h xs step each.1)

-- the first element that passes is changed
pub all_update : {X : Type 0} (P : X → Type 0) (p : X → Bool) (f : X → X) (xs : List X) → ((x : X) → p x ≡ true → P x → P (f x)) → AllByRecursion P xs → AllByRecursion P (update_first p f xs)
all_update P p f [] step each = tt
all_update P p f (x ∷ xs) step each =
    let M : Bool → Type 0 = λ b. (b ≡ true → P x → P (f x)) → AllByRecursion P (cond b (f x ∷ xs) (x ∷ update_first p f xs)) in
    (elim (p x) as M [ true ↦ (λ here. (here refl each.0, each.1)) | false ↦ (λ here. (each.0, all_update P p f xs step each.1)) ]) (step x)

pub all_find : {X : Type 0} (P : X → Type 0) (p : X → Bool) (xs : List X) (x : X) → AllByRecursion P xs → find p xs ≡ Some x → P x
all_find P p [] x each found = absurd cc
all_find P p (y ∷ ys) x each found =
    let Q : Bool → Type 0 = λ b. cond b (Some y) (find p ys) ≡ Some x → P x in
    (elim (p y) as Q [ true ↦ (λ is. let same : y ≡ x = cc in subst P same each.0) | false ↦ (λ is. all_find P p ys x each.1 is) ]) found

-- what is found passes
pub find_passes : {X : Type 0} (p : X → Bool) (xs : List X) (x : X) → find p xs ≡ Some x → p x ≡ true
find_passes p [] x found = absurd cc
find_passes p (y ∷ ys) x found =
    let Q : Bool → Type 0 = λ b. p y ≡ b → cond b (Some y) (find p ys) ≡ Some x → p x ≡ true in
    (elim (p y) as Q [ true ↦ (λ here is. let same : y ≡ x = cc in subst (λ z. p z ≡ true) same here) | false ↦ (λ here is. find_passes p ys x is) ]) refl found

pub all_get : {X : Type 0} (P : X → Type 0) (xs : List X) (i : ℕ) (x : X) → AllByRecursion P xs → slice_get xs i ≡ Some x → P x
all_get P [] i x each found = absurd cc
all_get P (y ∷ ys) zero x each found = let same : y ≡ x = cc in subst P same each.0
all_get P (y ∷ ys) (suc i) x each found = all_get P ys i x each.1 found

none_step : {X : Type 0} (b : Bool) (y : X) (o : Option X) → cond b (Some y) o ≡ None → (b ≡ false) × (o ≡ None)
none_step true y o none = absurd cc
none_step false y o none = (refl, none)

-- none is found: none passes
pub find_none : {X : Type 0} (p : X → Bool) (xs : List X) → find p xs ≡ None → AllByRecursion (λ x. p x ≡ false) xs
find_none p [] none = tt
find_none p (x ∷ xs) none = let parts = none_step (p x) x (find p xs) none in (parts.0, find_none p xs parts.1)

any_step : (a b : Bool) → (a || b) ≡ false → (a ≡ false) × (b ≡ false)
any_step true b none = absurd cc
any_step false b none = (refl, none)

pub any_none : {X : Type 0} (p : X → Bool) (xs : List X) → list_any p xs ≡ false → AllByRecursion (λ x. p x ≡ false) xs
any_none p [] none = tt
any_none p (x ∷ xs) none = let parts = any_step (p x) (list_any p xs) none in (parts.0, any_none p xs parts.1)
