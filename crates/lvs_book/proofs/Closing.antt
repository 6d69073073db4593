-- All passes of a book, collected into one.
use Rattle.std.proofs.Common.{append_assoc, ◌≡◌, ℕ, suc, ◌+◌, List, [], ◌∷◌, ◌++◌, map, length, refl, ap, subst, ◌∙◌, arith}
use Rattle.atomic_table.specs.Seated.{TableId}
use Rattle.lvs_book.specs.declared.view.Lane.{Lane}
use Rattle.lvs_book.specs.Lanes.{AllFrom, Own}
use Rattle.lvs_book.specs.Passes.{Held, held_lane, lane_of, AreAll, Tells}

module _ {O A : Type 0} where
  book_of : (z : TableId) (k n : ℕ) (ps qs : List (Held O A)) (p : Held O A) → AreAll z k n (ps ++ p ∷ qs) → p.book ≡ z
  book_of z k n [] qs p all = all.0
  book_of z k n (x ∷ xs) qs p all = book_of z (suc k) n xs qs p all.2

  pub count_of : (z : TableId) (k n : ℕ) (ps : List (Held O A)) → AreAll z k n ps → k + length ps ≡ n
  count_of z k n [] all = let e : k + 0 ≡ k = omega arith in e ∙ all
  count_of z k n (x ∷ xs) all = let e : k + suc (length xs) ≡ suc k + length xs = omega arith in e ∙ count_of z (suc k) n xs all.2

  pub length_lanes : (z : TableId) (ls : List (Lane O A)) → length (map (held_lane z) ls) ≡ length ls
  length_lanes z [] = refl
  length_lanes z (x ∷ xs) = ap suc (length_lanes z xs)

  -- one pass more in front of those that are collected
  pub one_more : (z : TableId) (n : ℕ) (all ps : List (Held O A)) (p : Held O A) (ls : List (Lane O A)) → AreAll z 0 n all → all ≡ (ps ++ p ∷ []) ++ map (held_lane z) ls → (p.book ≡ z) × (all ≡ ps ++ map (held_lane z) (lane_of p ∷ ls))
  one_more z n all ps p ls good is = let flat : all ≡ ps ++ p ∷ map (held_lane z) ls = is ∙ append_assoc ps (p ∷ []) (map (held_lane z) ls) in
      let same : p.book ≡ z = book_of z 0 n ps (map (held_lane z) ls) p (subst (AreAll z 0 n) flat good) in
      (same, flat ∙ (λ i. ps ++ record { book = same i; lane = p.lane; origin = p.origin; acts = p.acts } ∷ map (held_lane z) ls))

  pub told : (names : A → List ℕ) (z : TableId) (o : O) (log : List A) (ls : List (Lane O A)) → AllFrom o ls → Own names log ls → Tells names o log (map (held_lane z) ls)
  told names z o log [] from own = tt
  told names z o log (x ∷ xs) from own = (from.0, own.0, told names z o log xs from.1 own.1)
