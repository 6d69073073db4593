-- Lists without one of their elements, and places in them.
use Rattle.std.proofs.Common.{◌≡◌, ℕ, ◌+◌, ◌-◌, ◌<◌, zero, suc, Bool, true, false, cond, not, ◌&&◌, List, [], ◌∷◌, count_by, slice_get, None, refl, sym, ap, ◌∙◌, arith}
use Rattle.lvs_model.specs.Lists.{without}
use Rattle.lvs_well_formed.proofs.Counting.{count_cons}

count_step : {X : Type 0} (q : X → Bool) (b : Bool) (x : X) (ys : List X) (n : ℕ) → count_by q ys ≡ n → count_by q (cond (not b) (x ∷ ys) ys) ≡ cond (not b && q x) 1 0 + n
count_step q true x ys n is = omega (arith, is)
count_step q false x ys n is = omega (arith, is, count_cons q x ys)

-- those that pass one test are counted among those that don't pass another
pub count_without : {X : Type 0} (p q : X → Bool) (xs : List X) → count_by q (without p xs) ≡ count_by (λ x. not (p x) && q x) xs
count_without p q [] = refl
count_without p q (x ∷ xs) =
    count_step q (p x) x (without p xs) (count_by (λ y. not (p y) && q y) xs) (count_without p q xs) ∙ sym (count_cons (λ y. not (p y) && q y) x xs)

-- a later place of a list is one of its tail
pub later_place : {X : Type 0} (x : X) (xs : List X) (n : ℕ) → 0 < n → slice_get (x ∷ xs) n ≡ slice_get xs (n - 1)
later_place x xs zero some = absurd (omega arith)
later_place x xs (suc n) some = let same : n ≡ suc n - 1 = omega arith in ap (slice_get xs) same
