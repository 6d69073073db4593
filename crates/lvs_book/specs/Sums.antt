-- Sums over the views of a book, and numbers that are 0 or 1.
use Rattle.std.specs.Prelude.{ℕ, ◌+◌, ◌&&◌, leb, ltb, Bool, true, false, List, [], ◌∷◌}

-- the sum of f over the views
abbrev pub total : {V : Type 0} → (V → ℕ) → List V → ℕ
total f [] = 0
total f (v ∷ vs) = f v + total f vs

abbrev pub one_if : Bool → ℕ
one_if true = 1
one_if false = 0

-- 1 for the numbers from a on and below b
abbrev pub between : ℕ → ℕ → ℕ → ℕ
between a b t = one_if (leb a t && ltb t b)
