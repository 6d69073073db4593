-- Lists whose elements stand beside their places.
use Rattle.std.proofs.Common.{◌≡◌, ℕ, zero, suc, ◌<◌, ◌≤◌, ◌+◌, Bool, true, false, cond, not, List, [], ◌∷◌, map, length, take, drop, get_or, slice_get, Option, Some, None, refl, sym, ◌∙◌, ap, arith}
use Rattle.std.specs.Option.{option_map, option_or}
use Rattle.std.specs.List.{find, position, position_or_len, enumerate_from}
use Rattle.std.proofs.lemmas.Grind.{common_steps}
use Rattle.std.proofs.lemmas.List.Folds.{find_at}
use Rattle.std.proofs.lemmas.List.FromFn.{length-enumerate_from, get_or-enumerate_from}
use Rattle.std.proofs.lemmas.Option.{slice_get_past, slice_get-get_or}

pub position_some : {X : Type 0} (p : X → Bool) (xs : List X) (i : ℕ) → position p xs ≡ Some i → (i ≡ position_or_len p xs) × (i < length xs)
position_some p xs i found = grind (arith, common_steps)

pub position_none : {X : Type 0} (p : X → Bool) (xs : List X) → position p xs ≡ None → length xs ≤ position_or_len p xs
position_none p xs none = grind (arith, common_steps)

pub place_placed : {X : Type 0} (p : X → Bool) (n : ℕ) (xs : List X) → position_or_len (λ (q : ℕ × X). p q.1) (enumerate_from n xs) ≡ position_or_len p xs
place_placed p n [] = refl
place_placed p n (x ∷ xs) = ap (λ r. cond (not (p x)) (1 + r) 0) (place_placed p (n + 1) xs)

pub drop_placed : {X : Type 0} (k n : ℕ) (xs : List X) → drop k (enumerate_from n xs) ≡ enumerate_from (n + k) (drop k xs)
drop_placed zero n xs =
    let none : n ≡ n + 0 = omega arith in
    ap (λ m. enumerate_from m xs) none
drop_placed (suc k) n [] = refl
drop_placed (suc k) n (x ∷ xs) =
    let one : (n + 1) + k ≡ n + suc k = omega arith in
    drop_placed k (n + 1) xs ∙ ap (λ m. enumerate_from m (drop k xs)) one

pub take_placed : {X : Type 0} (k n : ℕ) (xs : List X) → take k (enumerate_from n xs) ≡ enumerate_from n (take k xs)
take_placed zero n xs = refl
take_placed (suc k) n [] = refl
take_placed {X} (suc k) n (x ∷ xs) = ap (λ (ys : List (ℕ × X)). (n, x) ∷ ys) (take_placed k (n + 1) xs)

find_map_step : {X Y : Type 0} (b : Bool) (h : X → Y) (x : X) (r : Option Y) (o : Option X) → r ≡ option_map h o → cond b (Some (h x)) r ≡ option_map h (cond b (Some x) o)
find_map_step true h x r o same = refl
find_map_step false h x r o same = same

pub find_map : {X Y : Type 0} (p : Y → Bool) (h : X → Y) (xs : List X) → find p (map h xs) ≡ option_map h (find (λ x. p (h x)) xs)
find_map p h [] = refl
find_map p h (x ∷ xs) = find_map_step (p (h x)) h x (find p (map h xs)) (find (λ y. p (h y)) xs) (find_map p h xs)

-- what a search among placed elements finds, by the place at which the element stands
pub found_placed : {X : Type 0} (p : X → Bool) (n : ℕ) (xs : List X) (i : ℕ) → position p xs ≡ Some i → (i < length xs) × (find (λ (q : ℕ × X). p q.1) (enumerate_from n xs) ≡ option_map (λ c. (n + i, c)) (slice_get xs i))
found_placed {X} p n [] i found = absurd (cc)
found_placed {X} p n (x ∷ xs) i found =
    let all : List (ℕ × X) = enumerate_from n (x ∷ xs) in
    let place = position_some p (x ∷ xs) i found in
    let same : position_or_len (λ (q : ℕ × X). p q.1) (enumerate_from n (x ∷ xs)) ≡ i = place_placed p n (x ∷ xs) ∙ sym place.0 in
    let long = length-enumerate_from n (x ∷ xs) in
    let within : i < length (enumerate_from n (x ∷ xs)) = omega arith in
    let there : find (λ (q : ℕ × X). p q.1) (enumerate_from n (x ∷ xs)) ≡ Some (n + i, get_or (x ∷ xs) i x) =
    find_at (λ (q : ℕ × X). p q.1) (enumerate_from n (x ∷ xs)) ∙ ap (slice_get (enumerate_from n (x ∷ xs))) same ∙ slice_get-get_or (enumerate_from n (x ∷ xs)) i (n, x) within ∙ ap Some (get_or-enumerate_from n (x ∷ xs) i (n, x) place.1)
    in
    let here = slice_get-get_or (x ∷ xs) i x place.1 in
    (place.1, there ∙ sym (ap (option_map (λ c. (n + i, c))) here))

pub none_placed : {X : Type 0} (p : X → Bool) (n : ℕ) (xs : List X) → position p xs ≡ None → find (λ (q : ℕ × X). p q.1) (enumerate_from n xs) ≡ None
none_placed {X} p n xs none =
    let past = position_none p xs none in
    let same = place_placed p n xs in
    let long = length-enumerate_from n xs in
    let beyond : length (enumerate_from n xs) ≤ position_or_len (λ (q : ℕ × X). p q.1) (enumerate_from n xs) = omega arith in
    find_at (λ (q : ℕ × X). p q.1) (enumerate_from n xs) ∙ slice_get_past (enumerate_from n xs) (position_or_len (λ (q : ℕ × X). p q.1) (enumerate_from n xs)) beyond

pub slice_get-drop : {X : Type 0} (k : ℕ) (xs : List X) (i : ℕ) → slice_get (drop k xs) i ≡ slice_get xs (k + i)
slice_get-drop zero xs i =
    let none : i ≡ 0 + i = omega arith in
    ap (slice_get xs) none
slice_get-drop (suc k) [] i = refl
slice_get-drop (suc k) (x ∷ xs) i =
    let one : suc (k + i) ≡ suc k + i = omega arith in
    slice_get-drop k xs i ∙ ap (slice_get (x ∷ xs)) one

pub slice_get-take : {X : Type 0} (k : ℕ) (xs : List X) (i : ℕ) → i < length (take k xs) → slice_get (take k xs) i ≡ slice_get xs i
slice_get-take zero xs i within = absurd (omega arith)
slice_get-take (suc k) [] i within = refl
slice_get-take (suc k) (x ∷ xs) zero within = refl
slice_get-take (suc k) (x ∷ xs) (suc i) within =
    let later : i < length (take k xs) = omega arith in
    slice_get-take k xs i later

pub or_first : {X Y : Type 0} (h : X → Y) (xs : List X) (i : ℕ) (o : Option Y) → i < length xs → option_or (option_map h (slice_get xs i)) o ≡ option_map h (slice_get xs i)
or_first h [] i o within = absurd (omega arith)
or_first h (x ∷ xs) i o within =
    let here = slice_get-get_or (x ∷ xs) i x within in
    ap (λ g. option_or (option_map h g) o) here ∙ sym (ap (option_map h) here)
