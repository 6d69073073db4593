-- What a change of a list makes of those that pass a test.
use Rattle.std.proofs.Common.{◌≡◌, ◌&&◌, Bool, true, false, cond, not, List, [], ◌∷◌, ◌++◌, Option, Some, None, refl, sym, ap, ◌∙◌}
use Rattle.std.specs.List.{AllByRecursion, find, filter}
use Rattle.lvs_model.specs.Lists.{update_first, without}

some_same : {X : Type 0} (x y : X) → Some x ≡ Some y → x ≡ y
some_same x y is = cc

in_step : {X : Type 0} (x v : X) (b : Bool) (long part : List X) → long ≡ part ++ v ∷ [] → cond b (x ∷ long) long ≡ cond b (x ∷ part) part ++ v ∷ []
in_step x v true long part is = ap (λ ys. x ∷ ys) is
in_step x v false long part is = is

-- one that passes comes last
pub filter_in : {X : Type 0} (p : X → Bool) (xs : List X) (v : X) → p v ≡ true → filter p (xs ++ v ∷ []) ≡ filter p xs ++ v ∷ []
filter_in p [] v is = rw is refl
filter_in p (x ∷ xs) v is = in_step x v (p x) (filter p (xs ++ v ∷ [])) (filter p xs) (filter_in p xs v is)

put_in_step : {X : Type 0} (p q : X → Bool) (v x z : X) (a b : Bool) (zs : List X) → q z ≡ a → p z ≡ b → cond a (Some z) (find q zs) ≡ Some x → p x ≡ true → p v ≡ true
    → (find q zs ≡ Some x → filter p (update_first q (λ _. v) zs) ≡ update_first q (λ _. v) (filter p zs))
    → filter p (cond a (v ∷ zs) (z ∷ update_first q (λ _. v) zs)) ≡ update_first q (λ _. v) (cond b (z ∷ filter p zs) (filter p zs))
put_in_step p q v x z true true zs is_q is_p found x_in v_in rest = rw v_in (rw is_q refl)
put_in_step p q v x z true false zs is_q is_p found x_in v_in rest = absurd (let h : false ≡ true = sym is_p ∙ ap p (some_same z x found) ∙ x_in in cc)
put_in_step p q v x z false true zs is_q is_p found x_in v_in rest = rw is_p (rw is_q (ap (λ ys. z ∷ ys) (rest found)))
put_in_step p q v x z false false zs is_q is_p found x_in v_in rest = rw is_p (rest found)

-- one that passes becomes another that passes
pub filter_put_in : {X : Type 0} (p q : X → Bool) (v x : X) (xs : List X) → find q xs ≡ Some x → p x ≡ true → p v ≡ true → filter p (update_first q (λ _. v) xs) ≡ update_first q (λ _. v) (filter p xs)
filter_put_in p q v x [] found x_in v_in = refl
filter_put_in p q v x (z ∷ zs) found x_in v_in = put_in_step p q v x z (q z) (p z) zs refl refl found x_in v_in (λ later. filter_put_in p q v x zs later x_in v_in)

swap_step : {X : Type 0} (p q : X → Bool) (z : X) (a b : Bool) (left part : List X) → q z ≡ a → p z ≡ b → filter p left ≡ without q part → filter p (cond (not a) (z ∷ left) left) ≡ without q (cond b (z ∷ part) part)
swap_step p q z true true left part is_q is_p rest = rw is_q rest
swap_step p q z true false left part is_q is_p rest = rest
swap_step p q z false true left part is_q is_p rest = rw is_p (rw is_q (ap (λ ys. z ∷ ys) rest))
swap_step p q z false false left part is_q is_p rest = rw is_p rest

-- those that are left, in either order
pub filter_swap : {X : Type 0} (p q : X → Bool) (xs : List X) → filter p (without q xs) ≡ without q (filter p xs)
filter_swap p q [] = refl
filter_swap p q (z ∷ zs) = swap_step p q z (q z) (p z) (without q zs) (filter p zs) refl refl (filter_swap p q zs)

both_step : {X : Type 0} (p d : X → Bool) (z : X) (a b : Bool) (left part : List X) → p z ≡ a → d z ≡ b → filter p left ≡ without d part → filter p (cond (not (a && b)) (z ∷ left) left) ≡ without d (cond a (z ∷ part) part)
both_step p d z true true left part is_p is_d rest = rw is_d rest
both_step p d z true false left part is_p is_d rest = rw is_p (rw is_d (ap (λ ys. z ∷ ys) rest))
both_step p d z false b left part is_p is_d rest = rw is_p rest

-- of those that pass, some leave
pub filter_both_left : {X : Type 0} (p d : X → Bool) (xs : List X) → filter p (without (λ x. p x && d x) xs) ≡ without d (filter p xs)
filter_both_left p d [] = refl
filter_both_left p d (z ∷ zs) = both_step p d z (p z) (d z) (without (λ x. p x && d x) zs) (filter p zs) refl refl (filter_both_left p d zs)

nothing_step : {X : Type 0} (b : Bool) (x : X) (o : Option X) → b ≡ false → o ≡ None → cond b (Some x) o ≡ None
nothing_step true x o is rest = absurd cc
nothing_step false x o is rest = rest

pub find_nothing : {X : Type 0} (p : X → Bool) (xs : List X) → AllByRecursion (λ x. p x ≡ false) xs → find p xs ≡ None
find_nothing p [] each = refl
find_nothing p (x ∷ xs) each = nothing_step (p x) x (find p xs) each.0 (find_nothing p xs each.1)

-- what holds of each holds of the last one
pub all_last : {X : Type 0} (P : X → Type 0) (xs : List X) (v : X) → AllByRecursion P (xs ++ v ∷ []) → P v
all_last P [] v each = each.0
all_last P (x ∷ xs) v each = all_last P xs v each.1
