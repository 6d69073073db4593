-- How a count over a list follows each change of the list.
use Rattle.std.proofs.Common.{◌≡◌, ◌+◌, ℕ, Bool, true, false, cond, not, List, [], ◌∷◌, ◌++◌, Option, Some, refl, ap, arith}
use Rattle.std.proofs.lemmas.List.Sums.{sum_by-cons}
use Rattle.std.specs.List.{count_by, find, filter}
use Rattle.lvs_model.specs.Lists.{update_first, without}

abbrev pub one_if : Bool → ℕ
one_if b = cond b 1 0

pub count_cons : {X : Type 0} (p : X → Bool) (x : X) (xs : List X) → count_by p (x ∷ xs) ≡ one_if (p x) + count_by p xs
count_cons p x xs = sum_by-cons (λ y. one_if (p y)) x xs

put_step : {X : Type 0} (q : X → Bool) (v x y : X) (b : Bool) (ys put : List X) (o : Option X) → cond b (Some y) o ≡ Some x
    → (o ≡ Some x → count_by q put + one_if (q x) ≡ count_by q ys + one_if (q v))
    → count_by q (cond b (v ∷ ys) (y ∷ put)) + one_if (q x) ≡ count_by q (y ∷ ys) + one_if (q v)
put_step q v x y true ys put o found rest =
    let same : y ≡ x = cc in
    omega (arith, count_cons q v ys, count_cons q y ys, ap (λ z. one_if (q z)) same)
put_step q v x y false ys put o found rest = omega (arith, count_cons q y put, count_cons q y ys, rest found)

-- one that is put in the place of another counts in its stead
pub count_put : {X : Type 0} (q p : X → Bool) (v x : X) (xs : List X) → find p xs ≡ Some x → count_by q (update_first p (λ _. v) xs) + one_if (q x) ≡ count_by q xs + one_if (q v)
count_put q p v x [] found = absurd cc
count_put q p v x (y ∷ ys) found = put_step q v x y (p y) ys (update_first p (λ _. v) ys) (find p ys) found (λ later. count_put q p v x ys later)

-- one that comes last counts as one more
pub count_push : {X : Type 0} (q : X → Bool) (xs : List X) (y : X) → count_by q (xs ++ y ∷ []) ≡ count_by q xs + one_if (q y)
count_push q [] y = omega (arith, count_cons q y [])
count_push q (x ∷ xs) y = omega (arith, count_cons q x (xs ++ y ∷ []), count_cons q x xs, count_push q xs y)

parts_step : {X : Type 0} (q : X → Bool) (b : Bool) (x : X) (ys zs xs : List X) → count_by q ys + count_by q zs ≡ count_by q xs
    → count_by q (cond b (x ∷ ys) ys) + count_by q (cond (not b) (x ∷ zs) zs) ≡ count_by q (x ∷ xs)
parts_step q true x ys zs xs rest = omega (arith, count_cons q x ys, count_cons q x xs, rest)
parts_step q false x ys zs xs rest = omega (arith, count_cons q x zs, count_cons q x xs, rest)

-- those that pass a test and those that don't are all
pub count_parts : {X : Type 0} (q p : X → Bool) (xs : List X) → count_by q (filter p xs) + count_by q (without p xs) ≡ count_by q xs
count_parts q p [] = refl
count_parts q p (x ∷ xs) = parts_step q (p x) x (filter p xs) (without p xs) xs (count_parts q p xs)
