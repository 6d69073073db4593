-- A stable sort by a number is the definition's list in order of that number.
use Rattle.std.proofs.Common.{◌≡◌, ℕ, ◌+◌, ◌<◌, ◌≤◌, cond, Bool, true, false, not, ◌&&◌, List, [], ◌∷◌, length, refl, arith, nat_le, ap, nat_lt, sym, subst}
use Rattle.std.specs.List.{filter}
use Rattle.std.specs.Ordering.{nat_cmp, is_lt}
use Rattle.std.specs.Fn.{Called, ComputesKey}
use Rattle.std.proofs.lemmas.Fn.{always_returns_same}
use denote.Param.Members.{Mut}
use denote.Ref.{Bor}
use Rattle.std.specs.List.Sorted.{IsNonDecreasingBy, IsSortedByKey, IsStableByKey, ties}
use Rattle.std.proofs.lemmas.Bool.Decides.{nat_tests}
use Rattle.std.proofs.lemmas.List.Sorted.{IsNonDecreasingBy-drop, IsNonDecreasingBy-from_sort}
use Rattle.lvs_model.specs.Lists.{insert_by, sorted_by}

join : {X : Type 0} {x y z : X} → x ≡ y → y ≡ z → x ≡ z
join p q = rw p q

-- the numbers don't fall, from one on
abbrev IsRising : {X : Type 0} → (X → ℕ) → ℕ → List X → Type 0
IsRising n low [] = Unit {0}
IsRising n low (x ∷ xs) = (low ≤ n x) × IsRising n (n x) xs

lower : {X : Type 0} (n : X → ℕ) (a b : ℕ) (xs : List X) → a ≤ b → IsRising n b xs → IsRising n a xs
lower n a b [] le h = h
lower n a b (x ∷ xs) le h = ((omega arith), h.1)

rising_from : {X : Type 0} (n : X → ℕ) (x : X) (xs : List X) → IsNonDecreasingBy n (x ∷ xs) → IsRising n (n x) xs
rising_from n x [] up = tt
rising_from n x (y ∷ ys) up = (up 0 1 x (omega arith) (omega arith), rising_from n y ys (IsNonDecreasingBy-drop n 1 (x ∷ y ∷ ys) up))

rising : {X : Type 0} (n : X → ℕ) (xs : List X) → IsNonDecreasingBy n xs → IsRising n 0 xs
rising n [] up = tt
rising n (x ∷ xs) up = (omega arith, rising_from n x xs up)

abbrev ties_by : {X : Type 0} → (X → ℕ) → X → X → Bool
ties_by n = ties (λ x y. is_lt (nat_cmp (n x) (n y)))

ties_equal : {X : Type 0} (n : X → ℕ) (x y : X) → n x ≡ n y → ties_by n x y ≡ true
ties_equal n x y e = grind (arith, nat_tests)

ties_below : {X : Type 0} (n : X → ℕ) (x y : X) → n x < n y → ties_by n x y ≡ false
ties_below n x y h = grind (arith, nat_tests)

ties_above : {X : Type 0} (n : X → ℕ) (x y : X) → n y < n x → ties_by n x y ≡ false
ties_above n x y h = grind (arith, nat_tests)

-- nothing that stands higher ties
none_tie : {X : Type 0} (n : X → ℕ) (x : X) (low : ℕ) (ys : List X) → n x < low → IsRising n low ys → filter (ties_by n x) ys ≡ []
none_tie n x low [] h up = refl
none_tie n x low (y ∷ ys) h up = rw (ties_below n x y (omega arith)) (none_tie n x (n y) ys (omega arith) up.1)

-- one that stands lower doesn't matter
skip : {X : Type 0} (n : X → ℕ) (z x : X) (xs : List X) → ties_by n z x ≡ false → filter (ties_by n z) (x ∷ xs) ≡ filter (ties_by n z) xs
skip n z x xs e = rw e refl

take_in : {X : Type 0} (n : X → ℕ) (z x : X) (xs : List X) → ties_by n z x ≡ true → filter (ties_by n z) (x ∷ xs) ≡ x ∷ filter (ties_by n z) xs
take_in n z x xs e = rw e refl

-- both lists have the same elements of each number, in the same order
abbrev AreAlike : {X : Type 0} → (X → ℕ) → List X → List X → Type 0
AreAlike {X} n xs ys = (z : X) → filter (ties_by n z) xs ≡ filter (ties_by n z) ys

head_of : {X : Type 0} (x y : X) (xs ys : List X) → x ∷ xs ≡ y ∷ ys → x ≡ y
head_of x y xs ys e = grind (arith, e)

tail_of : {X : Type 0} (x y : X) (xs ys : List X) → x ∷ xs ≡ y ∷ ys → xs ≡ ys
tail_of x y xs ys e = grind (arith, e)

not_empty : {X : Type 0} (x : X) (xs : List X) → x ∷ xs ≡ [] → ⊥
not_empty x xs e = grind (arith, e)

-- a first element that stands lower than all of the other list is missed there
missed : {X : Type 0} (n : X → ℕ) (x y : X) (xs ys : List X) → n x < n y → IsRising n (n y) ys → filter (ties_by n x) (x ∷ xs) ≡ filter (ties_by n x) (y ∷ ys) → ⊥
missed n x y xs ys h vp e = not_empty x (filter (ties_by n x) xs) (join (sym (take_in n x x xs (ties_equal n x x refl))) (join e (none_tie n x (n y) (y ∷ ys) h (omega arith, vp))))

same_number : {X : Type 0} (n : X → ℕ) (x y : X) (xs ys : List X) → IsRising n (n x) xs → IsRising n (n y) ys → AreAlike n (x ∷ xs) (y ∷ ys) → (b c : Bool) → nat_lt (n x) (n y) ≡ b → nat_lt (n y) (n x) ≡ c → n x ≡ n y
same_number n x y xs ys up vp same true c h k = absurd (missed n x y xs ys (grind (arith, nat_tests)) vp (same x))
same_number n x y xs ys up vp same false true h k = absurd (missed n y x ys xs (grind (arith, nat_tests)) up (sym (same y)))
same_number n x y xs ys up vp same false false h k = grind (arith, nat_tests)

same_first : {X : Type 0} (n : X → ℕ) (x y : X) (xs ys : List X) → n x ≡ n y → filter (ties_by n x) (x ∷ xs) ≡ filter (ties_by n x) (y ∷ ys) → x ≡ y
same_first n x y xs ys e same = head_of x y (filter (ties_by n x) xs) (filter (ties_by n x) ys) (join (sym (take_in n x x xs (ties_equal n x x refl))) (join same (take_in n x y ys (ties_equal n x y e))))

rest_alike : {X : Type 0} (n : X → ℕ) (z x : X) (xs ys : List X) → (b : Bool) → ties_by n z x ≡ b → filter (ties_by n z) (x ∷ xs) ≡ filter (ties_by n z) (x ∷ ys) → filter (ties_by n z) xs ≡ filter (ties_by n z) ys
rest_alike n z x xs ys true e same = tail_of x x (filter (ties_by n z) xs) (filter (ties_by n z) ys) (join (sym (take_in n z x xs e)) (join same (take_in n z x ys e)))
rest_alike n z x xs ys false e same = join (sym (skip n z x xs e)) (join same (skip n z x ys e))

-- lists that don't fall and are alike are one list
one_list : {X : Type 0} (n : X → ℕ) (low : ℕ) (xs ys : List X) → IsRising n low xs → IsRising n low ys → AreAlike n xs ys → xs ≡ ys
one_list n low [] [] up vp same = refl
one_list n low [] (y ∷ ys) up vp same = absurd (not_empty y (filter (ties_by n y) ys) (join (sym (take_in n y y ys (ties_equal n y y refl))) (sym (same y))))
one_list n low (x ∷ xs) [] up vp same = absurd (not_empty x (filter (ties_by n x) xs) (join (sym (take_in n x x xs (ties_equal n x x refl))) (same x)))
one_list {X} n low (x ∷ xs) (y ∷ ys) up vp same =
    let number : n x ≡ n y = same_number n x y xs ys up.1 vp.1 same (nat_lt (n x) (n y)) (nat_lt (n y) (n x)) refl refl in
    let first : x ≡ y = same_first n x y xs ys number (same x) in
    let alike : AreAlike n (x ∷ xs) (x ∷ ys) = subst (λ (w : X). AreAlike n (x ∷ xs) (w ∷ ys)) (sym first) same in
    rw first (ap (λ (l : List X). y ∷ l) (one_list n (n x) xs ys up.1 (rw number vp.1) (λ z. rest_alike n z x xs ys (ties_by n z x) refl (alike z))))

-- the definition's list doesn't fall
rising_at : {X : Type 0} (n : X → ℕ) (low : ℕ) (x y : X) (ys inserted : List X) → low ≤ n x → IsRising n low (y ∷ ys) → (b : Bool) → nat_le (n x) (n y) ≡ b → (n y ≤ n x → IsRising n (n y) inserted) → IsRising n low (cond b (x ∷ y ∷ ys) (y ∷ inserted))
rising_at n low x y ys inserted h up true e rest = (h, (grind (arith, nat_tests), up.1))
rising_at n low x y ys inserted h up false e rest = (up.0, rest (grind (arith, nat_tests)))

rising_insert : {X : Type 0} (n : X → ℕ) (low : ℕ) (x : X) (ys : List X) → low ≤ n x → IsRising n low ys → IsRising n low (insert_by n x ys)
rising_insert n low x [] h up = (h, tt)
rising_insert n low x (y ∷ ys) h up = rising_at n low x y ys (insert_by n x ys) h up (nat_le (n x) (n y)) refl (λ below. rising_insert n (n y) x ys below up.1)

rising_sorted : {X : Type 0} (n : X → ℕ) (xs : List X) → IsRising n 0 (sorted_by n xs)
rising_sorted n [] = tt
rising_sorted n (x ∷ xs) = rising_insert n 0 x (sorted_by n xs) (omega arith) (rising_sorted n xs)

apart : {X : Type 0} (n : X → ℕ) (z x y : X) → nat_le (n x) (n y) ≡ false → ties_by n z x ≡ true → ties_by n z y ≡ true → ⊥
apart n z x y h tx ty = grind (arith, nat_tests)

-- one that ties with z comes before all that tie with z, and one that doesn't is left out
alike_at : {X : Type 0} (n : X → ℕ) (z x y : X) (ys inserted : List X) → (b : Bool) → nat_le (n x) (n y) ≡ b → (c d : Bool) → ties_by n z x ≡ c → ties_by n z y ≡ d → filter (ties_by n z) inserted ≡ filter (ties_by n z) (x ∷ ys) → filter (ties_by n z) (cond b (x ∷ y ∷ ys) (y ∷ inserted)) ≡ filter (ties_by n z) (x ∷ y ∷ ys)
alike_at n z x y ys inserted true h c d tx ty e = refl
alike_at n z x y ys inserted false h true true tx ty e = absurd (apart n z x y h tx ty)
alike_at n z x y ys inserted false h true false tx ty e = grind (arith, e, tx, ty)
alike_at n z x y ys inserted false h false true tx ty e = grind (arith, e, tx, ty)
alike_at n z x y ys inserted false h false false tx ty e = grind (arith, e, tx, ty)

alike_insert : {X : Type 0} (n : X → ℕ) (z x : X) (ys : List X) → filter (ties_by n z) (insert_by n x ys) ≡ filter (ties_by n z) (x ∷ ys)
alike_insert n z x [] = refl
alike_insert n z x (y ∷ ys) = alike_at n z x y ys (insert_by n x ys) (nat_le (n x) (n y)) refl (ties_by n z x) (ties_by n z y) refl refl (alike_insert n z x ys)

alike_more : {X : Type 0} (n : X → ℕ) (z x : X) (xs ys : List X) → (b : Bool) → ties_by n z x ≡ b → filter (ties_by n z) ys ≡ filter (ties_by n z) xs → filter (ties_by n z) (x ∷ ys) ≡ filter (ties_by n z) (x ∷ xs)
alike_more n z x xs ys true t e = join (take_in n z x ys t) (join (ap (λ l. x ∷ l) e) (sym (take_in n z x xs t)))
alike_more n z x xs ys false t e = join (skip n z x ys t) (join e (sym (skip n z x xs t)))

alike_sorted : {X : Type 0} (n : X → ℕ) (xs : List X) (z : X) → filter (ties_by n z) (sorted_by n xs) ≡ filter (ties_by n z) xs
alike_sorted n [] z = refl
alike_sorted n (x ∷ xs) z = join (alike_insert n z x (sorted_by n xs)) (alike_more n z x xs (sorted_by n xs) (ties_by n z x) refl (alike_sorted n xs z))

-- what a stable sort by a number ensures
pub sorted_is : {X : Type 0} (n : X → ℕ) (xs ys : List X) → IsSortedByKey n nat_cmp ys → IsStableByKey n nat_cmp xs ys → ys ≡ sorted_by n xs
sorted_is n xs ys sorted stable = one_list n 0 ys (sorted_by n xs) (rising n ys (IsNonDecreasingBy-from_sort n ys sorted)) (rising_sorted n xs) (λ z. join (stable z) (sym (alike_sorted n xs z)))

-- what the clauses of `sort_by_key` give, where each call gives the number
pub sorted_by_clauses : {X : Type 0} (n : X → ℕ) {F : Type 0} {g : Mut F (Bor X × Unit {0}) ℕ} {f : F} (xs ys : List X) → ((key : X → ℕ) → ComputesKey g key f → IsSortedByKey key nat_cmp ys) → ((key : X → ℕ) → ComputesKey g key f → IsStableByKey key nat_cmp xs ys) → ((a : Bor X × Unit {0}) (r : ℕ) (f' : F) → Called g f a r f' → (r ≡ n a.0.now) × (f' ≡ f)) → ys ≡ sorted_by n xs
sorted_by_clauses {X} n {F} {g} {f} xs ys sorted stable h =
    let gives : ComputesKey g n f = always_returns_same g (λ a r. r ≡ n a.0.now) f h in
    sorted_is n xs ys (sorted n gives) (stable n gives)
