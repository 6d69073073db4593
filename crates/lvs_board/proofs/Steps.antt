-- One service of a key changes.
use Rattle.std.proofs.Common.{◌≡◌, Bool, true, false, cond, List, [], ◌∷◌, Option, Some, None, refl, sym, ap, subst, ◌∙◌}
use Rattle.std.specs.List.{find}
use Rattle.lvs_model.specs.Lists.{update_first}

none_step : {X : Type 0} (f : X → X) (x : X) (b : Bool) (xs updated : List X) (o : Option X) → cond b (Some x) o ≡ None → (o ≡ None → updated ≡ xs) → cond b (f x ∷ xs) (x ∷ updated) ≡ x ∷ xs
none_step f x true xs updated o found rest = absurd cc
none_step f x false xs updated o found rest = ap (λ others. x ∷ others) (rest found)

-- nothing changes where none is there
pub none_updated : {X : Type 0} (p : X → Bool) (f : X → X) (xs : List X) → find p xs ≡ None → update_first p f xs ≡ xs
none_updated p f [] found = refl
none_updated p f (x ∷ xs) found = none_step f x (p x) xs (update_first p f xs) (find p xs) found (λ later. none_updated p f xs later)

some_step : {X : Type 0} (f g : X → X) (x y : X) (b : Bool) (xs one other : List X) (o : Option X) → cond b (Some x) o ≡ Some y → g y ≡ f y → (o ≡ Some y → one ≡ other) → cond b (g x ∷ xs) (x ∷ one) ≡ cond b (f x ∷ xs) (x ∷ other)
some_step f g x y true xs one other o found same rest =
    let here : y ≡ x = cc in
    ap (λ z. z ∷ xs) (subst (λ z. g z ≡ f z) here same)
some_step f g x y false xs one other o found same rest = ap (λ others. x ∷ others) (rest found)

-- two changes that make the same of the one that is there
pub same_updated : {X : Type 0} (p : X → Bool) (f g : X → X) (y : X) (xs : List X) → find p xs ≡ Some y → g y ≡ f y → update_first p g xs ≡ update_first p f xs
same_updated p f g y [] found same = absurd cc
same_updated p f g y (x ∷ xs) found same = some_step f g x y (p x) xs (update_first p g xs) (update_first p f xs) (find p xs) found same (λ later. same_updated p f g y xs later same)

self_step : {X : Type 0} (x : X) (b : Bool) (xs updated : List X) → updated ≡ xs → cond b (x ∷ xs) (x ∷ updated) ≡ x ∷ xs
self_step x true xs updated rest = refl
self_step x false xs updated rest = ap (λ others. x ∷ others) rest

itself_updated : {X : Type 0} (p : X → Bool) (xs : List X) → update_first p (λ x. x) xs ≡ xs
itself_updated p [] = refl
itself_updated p (x ∷ xs) = self_step x (p x) xs (update_first p (λ y. y) xs) (itself_updated p xs)

-- a change that leaves the one that is there as it is
pub kept_updated : {X : Type 0} (p : X → Bool) (f : X → X) (y : X) (xs : List X) → find p xs ≡ Some y → y ≡ f y → xs ≡ update_first p f xs
kept_updated p f y xs found same = sym (itself_updated p xs) ∙ same_updated p f (λ x. x) y xs found same
