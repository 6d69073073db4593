-- Passes that are dealt out one by one.
use Rattle.std.proofs.Common.{◌≡◌, ℕ, zero, suc, ◌+◌, ◌-◌, ◌<◌, [], ◌∷◌, ◌++◌, ap, ◌∙◌, arith}
use Rattle.atomic_table.specs.Seated.{TableId}
use Rattle.lvs_book.specs.Lanes.{new_lanes, first_lane, other_lanes}
use Rattle.lvs_book.specs.Passes.{opened}

module _ {O A : Type 0} (z : TableId) (o : O) where
  pub opened_more : (k m : ℕ) → opened {A = A} z o k (suc m) ≡ opened z o k m ++ record { book = z; lane = k + m; origin = o; acts = [] } ∷ []
  opened_more k zero = let e : k ≡ k + zero = omega arith in ap (λ n. record { book = z; lane = n; origin = o; acts = [] } ∷ []) e
  opened_more k (suc m) = let e : suc k + m ≡ k + suc m = omega arith in ap (λ l. record { book = z; lane = k; origin = o; acts = [] } ∷ l) (opened_more (suc k) m ∙ ap (λ n. opened z o (suc k) m ++ record { book = z; lane = n; origin = o; acts = [] } ∷ []) e)

  pub opened_next : (i j : ℕ) → j ≡ i + 1 → opened {A = A} z o 0 j ≡ opened z o 0 i ++ record { book = z; lane = i; origin = o; acts = [] } ∷ []
  opened_next i j e = let up : j ≡ suc i = omega arith in let back : 0 + i ≡ i = omega arith in ap (opened {A = A} z o 0) up ∙ opened_more 0 i ∙ ap (λ n. opened {A = A} z o 0 i ++ record { book = z; lane = n; origin = o; acts = [] } ∷ []) back

  -- what is still to be dealt, once i passes of n are
  pub cut_new : (i n : ℕ) → i < n → (first_lane (new_lanes {A = A} o i (n - i)) ≡ record { number = i; origin = o; acts = [] } ∷ []) × (other_lanes (new_lanes {A = A} o i (n - i)) ≡ new_lanes o (i + 1) (n - (i + 1)))
  cut_new i n more = let e : n - i ≡ suc (n - (i + 1)) = omega arith in let up : suc i ≡ i + 1 = omega arith in
      (ap (λ m. first_lane (new_lanes {A = A} o i m)) e, ap (λ m. other_lanes (new_lanes {A = A} o i m)) e ∙ ap (λ k. new_lanes {A = A} o k (n - (i + 1))) up)

  pub last_new : (i n : ℕ) → i + 1 ≡ n → new_lanes {A = A} o i (n - i) ≡ record { number = i; origin = o; acts = [] } ∷ []
  last_new i n end = let e : n - i ≡ suc zero = omega arith in ap (new_lanes {A = A} o i) e
