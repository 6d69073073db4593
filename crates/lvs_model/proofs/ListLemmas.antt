-- Look-ups by place, and edits of the first element that passes a test.
use Rattle.std.proofs.Common.{◌≡◌, ℕ, ◌<◌, ◌≤◌, ◌+◌, Bool, true, false, cond, List, [], ◌∷◌, length, Option, Some, None, refl, sym, ◌∙◌, ap, arith, get_or, slice_get, set, not, zero, suc}
use Rattle.std.specs.List.{find, position, position_or_len, AllByRecursion}
use Rattle.std.proofs.lemmas.Grind.{common_steps}
use Rattle.std.proofs.lemmas.List.Folds.{find_at}
use Rattle.std.proofs.lemmas.Option.{slice_get_past, gets}
use Rattle.lvs_model.specs.Lists.{update_first, IsPlaceOf}

pub position_some : {X : Type 0} (p : X → Bool) (xs : List X) (i : ℕ) → position p xs ≡ Some i → (i ≡ position_or_len p xs) × (i < length xs)
position_some p xs i found = grind (arith, common_steps)

pub position_none : {X : Type 0} (p : X → Bool) (xs : List X) → position p xs ≡ None → length xs ≤ position_or_len p xs
position_none p xs none = grind (arith, common_steps)

pub find_some : {X : Type 0} (p : X → Bool) (xs : List X) (i : ℕ) → position p xs ≡ Some i → find p xs ≡ slice_get xs i
find_some p xs i found = let place = position_some p xs i found in grind (arith, common_steps, find_at)

pub find_none : {X : Type 0} (p : X → Bool) (xs : List X) → position p xs ≡ None → find p xs ≡ None
find_none p xs none = let past = position_none p xs none in find_at p xs ∙ slice_get_past xs (position_or_len p xs) past

update_cons : {X : Type 0} (b : Bool) (n : ℕ) (f : X → X) (x : X) (xs ys : List X) (d : X) → (n < length xs → ys ≡ set xs n (f (get_or xs n d))) → cond (not b) (suc n) 0 < suc (length xs) → cond b (f x ∷ xs) (x ∷ ys) ≡ set (x ∷ xs) (cond (not b) (suc n) 0) (f (get_or (x ∷ xs) (cond (not b) (suc n) 0) d))
update_cons true n f x xs ys d later within = refl
update_cons false n f x xs ys d later within = ap (λ zs. x ∷ zs) (later (omega arith))

pub update_at : {X : Type 0} (p : X → Bool) (f : X → X) (xs : List X) (d : X) → position_or_len p xs < length xs → update_first p f xs ≡ set xs (position_or_len p xs) (f (get_or xs (position_or_len p xs) d))
update_at p f [] d within = absurd (omega arith)
update_at p f (x ∷ xs) d within =
    let one : (1 + position_or_len p xs) ≡ suc (position_or_len p xs) = omega arith in
    let shown : cond (not (p x)) (suc (position_or_len p xs)) 0 < suc (length xs) = rw (← one) within in
    rw one (update_cons (p x) (position_or_len p xs) f x xs (update_first p f xs) d (update_at p f xs d) shown)

pub place_of : {X : Type 0} (p : X → Bool) (xs : List X) (r : Option ℕ) → r ≡ position p xs → IsPlaceOf xs (find p xs) r
place_of p xs None is = find_none p xs (sym is)
place_of p xs (Some i) is = ((position_some p xs i (sym is)).1, find_some p xs i (sym is))

pub all_at : {X : Type 0} (P : X → Type 0) (xs : List X) (i : ℕ) (d : X) → AllByRecursion P xs → i < length xs → P (get_or xs i d)
all_at P [] i d each within = absurd (omega arith)
all_at P (x ∷ xs) zero d each within = each.0
all_at P (x ∷ xs) (suc i) d each within = all_at P xs i d each.1 (omega arith)

pub update_written : {X : Type 0} (p : X → Bool) (f : X → X) (xs : List X) (i : ℕ) (x : X) → i ≡ position_or_len p xs → i < length xs → get_or xs i x ≡ x → set xs i (f x) ≡ update_first p f xs
update_written p f xs i x is within here =
    let there : position_or_len p xs < length xs = omega arith in
    let whole = update_at p f xs x there in
    cc

update_none_step : {X : Type 0} (b : Bool) (f : X → X) (x : X) (xs ys : List X) (r : Option X) → (r ≡ None → ys ≡ xs) → cond b (Some x) r ≡ None → cond b (f x ∷ xs) (x ∷ ys) ≡ x ∷ xs
update_none_step true f x xs ys r later none = cc
update_none_step false f x xs ys r later none = ap (λ zs. x ∷ zs) (later none)

pub update_none : {X : Type 0} (p : X → Bool) (f : X → X) (xs : List X) → find p xs ≡ None → update_first p f xs ≡ xs
update_none p f [] none = refl
update_none p f (x ∷ xs) none = update_none_step (p x) f x xs (update_first p f xs) (find p xs) (update_none p f xs) none

-- what a write at the place that was found leaves, and what stands there
pub update_found : {X : Type 0} (p : X → Bool) (f : X → X) (xs : List X) (i : ℕ) (x : X) → position p xs ≡ Some i → x ≡ get_or xs i x → set xs i (f x) ≡ update_first p f xs
update_found p f xs i x found here = let place = position_some p xs i found in update_written p f xs i x place.0 place.1 (sym here)

pub find_found : {X : Type 0} (p : X → Bool) (xs : List X) (i : ℕ) (x : X) → position p xs ≡ Some i → x ≡ get_or xs i x → find p xs ≡ Some x
find_found p xs i x found here =
    let place = position_some p xs i found in
    find_some p xs i found ∙ grind (arith, common_steps, gets)

pub update_missed : {X : Type 0} (p : X → Bool) (f : X → X) (xs : List X) → position p xs ≡ None → xs ≡ update_first p f xs
update_missed p f xs none = sym (update_none p f xs (find_none p xs none))
