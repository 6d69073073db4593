-- Numbers that go on by one.
use Rattle.std.proofs.Common.{◌≡◌, ℕ, zero, suc, ◌+◌, List, [], ◌∷◌, ◌++◌, length, map, refl, ◌∙◌, ap, zero-add, arith}
use Rattle.std.proofs.Math.Numerals.{add-one}
use Rattle.std.proofs.lemmas.List.{map-append}
use Rattle.lvs_model.specs.Plans.{numbers_from}

numbers_more : (first count : ℕ) → numbers_from first (suc count) ≡ numbers_from first count ++ (first + count) ∷ []
numbers_more first zero = ap (λ (n : ℕ). n ∷ []) (omega arith)
numbers_more first (suc count) =
    ap (λ (rest : List ℕ). first ∷ rest) (numbers_more (first + 1) count)
    ∙ ap (λ (n : ℕ). first ∷ (numbers_from (first + 1) count ++ n ∷ [])) (omega arith)

pub length_numbers : (first count : ℕ) → length (numbers_from first count) ≡ count
length_numbers first zero = refl
length_numbers first (suc count) = ap suc (length_numbers (first + 1) count)

-- what is made of one number more
pub map_more : {X : Type 0} (f : ℕ → X) (count : ℕ) → map f (numbers_from 0 (count + 1)) ≡ map f (numbers_from 0 count) ++ f count ∷ []
map_more f count =
    ap (λ (n : ℕ). map f (numbers_from 0 n)) (add-one count)
    ∙ ap (map f) (numbers_more 0 count)
    ∙ ap (λ (n : ℕ). map f (numbers_from 0 count ++ n ∷ [])) (zero-add count)
    ∙ map-append f (numbers_from 0 count) (count ∷ [])
