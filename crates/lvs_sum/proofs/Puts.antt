-- A list with some of its elements replaced by as many others: its length, its elements and its parts.
use Rattle.std.proofs.Common.{◌≡◌, ℕ, ◌+◌, ◌<◌, ◌≤◌, List, ◌++◌, length, get_or, take, drop, arith, rules, length-append, length-drop}
use Rattle.std.proofs.lemmas.List.{length-take-le, same_lists, places}

-- the elements w in place of the k ones from `at` on
abbrev pub put : {X : Type 0} → ℕ → ℕ → List X → List X → List X
put at k w xs = take at xs ++ w ++ drop (at + k) xs

pub length_put : {X : Type 0} (at k : ℕ) (w xs : List X) → length w ≡ k → at + k ≤ length xs → length (put at k w xs) ≡ length xs
length_put at k w xs e fits = omega (arith, length-append (take at xs ++ w) (drop (at + k) xs), length-append (take at xs) w, length-take-le at xs (omega arith), length-drop (at + k) xs)

pub get_or_put_before : {X : Type 0} (at k : ℕ) (w xs : List X) (i : ℕ) (d : X) → at + k ≤ length xs → i < at → get_or (put at k w xs) i d ≡ get_or xs i d
get_or_put_before at k w xs i d fits before = grind (arith, places)

pub get_or_put_after : {X : Type 0} (at k : ℕ) (w xs : List X) (i : ℕ) (d : X) → length w ≡ k → at + k ≤ length xs → at + k ≤ i → get_or (put at k w xs) i d ≡ get_or xs i d
get_or_put_after at k w xs i d e fits after = grind (arith, places)

pub get_or_put_in : {X : Type 0} (at k : ℕ) (w xs : List X) (i : ℕ) (d : X) → length w ≡ k → at + k ≤ length xs → i < k → get_or (put at k w xs) (at + i) d ≡ get_or w i d
get_or_put_in at k w xs i d e fits within = grind (arith, places)

pub take_put_before : {X : Type 0} (n at k : ℕ) (w xs : List X) → n ≤ at → at + k ≤ length xs → take n (put at k w xs) ≡ take n xs
take_put_before n at k w xs before fits =
    same_lists (take n (put at k w xs)) (take n xs) (search (rules, places)) (λ i d h. grind (arith, places))

pub take_put_around : {X : Type 0} (n at k : ℕ) (w xs : List X) → length w ≡ k → at + k ≤ n → n ≤ length xs → take n (put at k w xs) ≡ put at k w (take n xs)
take_put_around n at k w xs e around fits =
    same_lists (take n (put at k w xs)) (put at k w (take n xs)) (grind (arith, places)) (λ i d h. grind (arith, places))

pub drop_put_after : {X : Type 0} (n at k : ℕ) (w xs : List X) → length w ≡ k → at + k ≤ n → n ≤ length xs → drop n (put at k w xs) ≡ drop n xs
drop_put_after n at k w xs e after fits =
    same_lists (drop n (put at k w xs)) (drop n xs) (grind (arith, places)) (λ i d h. grind (arith, places))

pub drop_put_around : {X : Type 0} (n at k : ℕ) (w xs : List X) → length w ≡ k → n + at + k ≤ length xs → drop n (put (n + at) k w xs) ≡ put at k w (drop n xs)
drop_put_around n at k w xs e fits =
    same_lists (drop n (put (n + at) k w xs)) (put at k w (drop n xs)) (grind (arith, places)) (λ i d h. grind (arith, places))
