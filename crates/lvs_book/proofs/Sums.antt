-- Sums over the views when one view changes.
use Rattle.std.proofs.Common.{◌≡◌, ◌≢◌, ℕ, zero, suc, ◌+◌, ◌<◌, ◌≤◌, eqb, List, [], ◌∷◌, ◌++◌, set, refl, sym, ap, subst, arith}
use mathlib.Core.Option.{some, some-injective, some-ne-none}
use lib.ListN.{get_elem?}
use Rattle.lvs_book.specs.Sums.{total, one_if, between}

module _ {V : Type 0} where
  pub total_set : (f : V → ℕ) (l : List V) (i : ℕ) (a b : V) → get_elem? l i ≡ some a → total f (set l i b) + f a ≡ total f l + f b
  total_set f [] i a b e = absurd (some-ne-none a (sym e))
  total_set f (x ∷ xs) zero a b e = let h : f x ≡ f a = ap f (some-injective x a e) in let m : ℕ = f x in let n : ℕ = f a in let p : ℕ = f b in let t : ℕ = total f xs in omega arith
  total_set f (x ∷ xs) (suc i) a b e = let h = total_set f xs i a b e in omega (arith, h)

  pub total_snoc : (f : V → ℕ) (l : List V) (a : V) → total f (l ++ a ∷ []) ≡ total f l + f a
  total_snoc f [] a = omega arith
  total_snoc f (x ∷ xs) a = omega (arith, total_snoc f xs a)

  pub at_le_total : (f : V → ℕ) (l : List V) (i : ℕ) (a : V) → get_elem? l i ≡ some a → f a ≤ total f l
  at_le_total f [] i a e = absurd (some-ne-none a (sym e))
  at_le_total f (x ∷ xs) zero a e = let h : f x ≡ f a = ap f (some-injective x a e) in omega (arith, h)
  at_le_total f (x ∷ xs) (suc i) a e = omega (arith, at_le_total f xs i a e)

  -- the view changes, and f of it does not
  pub total_same : (f : V → ℕ) (l : List V) (i : ℕ) (a b : V) → get_elem? l i ≡ some a → f a ≡ f b → total f (set l i b) ≡ total f l
  total_same f l i a b e same = omega (arith, total_set f l i a b e, same)

  pub total_le : (f g : V → ℕ) (l : List V) → ((i : ℕ) (v : V) → get_elem? l i ≡ some v → f v ≤ g v) → total f l ≤ total g l
  total_le f g [] h = omega arith
  total_le f g (x ∷ xs) h = omega (arith, h 0 x refl, total_le f g xs (λ i v e. h (suc i) v e))

  -- where one view has less of f than of g
  pub total_lt : (f g : V → ℕ) (l : List V) (i : ℕ) (a : V) → ((j : ℕ) (v : V) → get_elem? l j ≡ some v → f v ≤ g v) → get_elem? l i ≡ some a → f a < g a → total f l < total g l
  total_lt f g [] i a h e less = absurd (some-ne-none a (sym e))
  total_lt f g (x ∷ xs) zero a h e less = let is : f x < g x = subst (λ v. f v < g v) (sym (some-injective x a e)) less in omega (arith, is, total_le f g xs (λ j v p. h (suc j) v p))
  total_lt f g (x ∷ xs) (suc i) a h e less = omega (arith, h 0 x refl, total_lt f g xs i a (λ j v p. h (suc j) v p) e less)

  -- two views at different places
  pub total_two : (f : V → ℕ) (l : List V) (i j : ℕ) (a b : V) → i ≢ j → get_elem? l i ≡ some a → get_elem? l j ≡ some b → f a + f b ≤ total f l
  total_two f [] i j a b ne p q = absurd (some-ne-none a (sym p))
  total_two f (x ∷ xs) zero zero a b ne p q = absurd (ne refl)
  total_two f (x ∷ xs) zero (suc j) a b ne p q = let h : f x ≡ f a = ap f (some-injective x a p) in omega (arith, h, at_le_total f xs j b q)
  total_two f (x ∷ xs) (suc i) zero a b ne p q = let h : f x ≡ f b = ap f (some-injective x b q) in omega (arith, h, at_le_total f xs i a p)
  total_two f (x ∷ xs) (suc i) (suc j) a b ne p q = omega (arith, total_two f xs i j a b (λ e. ne (ap suc e)) p q)

-- a view is cut in two, and two views are put together
module _ {V : Type 0} where
  pub total_split : (f : V → ℕ) (l : List V) (i : ℕ) (v a b : V) → get_elem? l i ≡ some v → f a + f b ≡ f v → total f (set l i a ++ b ∷ []) ≡ total f l
  total_split f l i v a b e same = omega (arith, total_snoc f (set l i a) b, total_set f l i v a e, same)

  pub total_join : (f : V → ℕ) (l : List V) (i j : ℕ) (v w a b : V) → get_elem? l i ≡ some v → get_elem? (set l i a) j ≡ some w → f a + f b ≡ f v + f w → total f (set (set l i a) j b) ≡ total f l
  total_join f l i j v w a b e e' same = omega (arith, total_set f l i v a e, total_set f (set l i a) j w b e', same)

  pub total_none : (f : V → ℕ) (l : List V) → ((i : ℕ) (v : V) → get_elem? l i ≡ some v → f v ≡ 0) → total f l ≡ 0
  total_none f [] h = refl
  total_none f (x ∷ xs) h = omega (arith, h 0 x refl, total_none f xs (λ i v e. h (suc i) v e))

pub between_none : (a t : ℕ) → between a a t ≡ 0
between_none a t = grind arith

pub between_first : (a b t : ℕ) → a < b → between a b t ≡ one_if (eqb a t) + between (suc a) b t
between_first a b t h = grind arith

-- the next ticket
pub between_more : (a b t : ℕ) → a ≤ b → between a b t + one_if (eqb b t) ≡ between a (b + 1) t
between_more a b t h = grind arith

-- the ticket that is served
pub between_less : (a b t : ℕ) → a < b → between a b t ≡ between (a + 1) b t + one_if (eqb a t)
between_less a b t h = grind arith

pub between_in : (a b t : ℕ) → 0 < between a b t → (a ≤ t) × (t < b)
between_in a b t h = grind arith

pub between_le : (a b t : ℕ) → between a b t ≤ 1
between_le a b t = grind arith

pub one_if_eq : (a b : ℕ) → a ≡ b → one_if (eqb a b) ≡ 1
one_if_eq a b e = grind arith
