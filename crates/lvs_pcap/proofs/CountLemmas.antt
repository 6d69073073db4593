-- A count of the elements of lists that stands still at a bound.
use Rattle.std.proofs.Common.{◌≡◌, ℕ, ◌+◌, ◌<◌, ◌≤◌, List, [], ◌∷◌, length, drop, flat_map, slice_index_or, add-one, drop-cons, length-append, refl, arith}
use Rattle.std.specs.Prelude.{min}
use Rattle.std.proofs.lemmas.List.{drop_all}
use Rattle.lvs_types.specs.declared.script.Round.{Round}
use Rattle.lvs_model.specs.Plans.{items_of_lines}
use Rattle.lvs_model.specs.ScriptLimits.{items_in}

-- the next element, and how many are counted for it
pub one_counted : {X Y : Type 0} (f : X → List Y) (count size most whole i : ℕ) (x : X) (xs : List X) → i < length xs → x ≡ slice_index_or xs i x → size ≡ length (f x) → min (count + length (flat_map f (drop i xs))) most ≡ min whole most → min (min (count + size) most + length (flat_map f (drop (i + 1) xs))) most ≡ min whole most
one_counted f count size most whole i x xs within is told so_far =
    let here : drop i xs ≡ slice_index_or xs i x ∷ drop (i + 1) xs = rw add-one (drop-cons xs i x within) in
    let this : drop i xs ≡ x ∷ drop (i + 1) xs = rw (← is) at here in
    let parts = rw this at so_far in
    omega (arith, parts, told, length-append (f x) (flat_map f (drop (i + 1) xs)))

pub all_counted : {X Y : Type 0} (f : X → List Y) (count most whole i : ℕ) (xs : List X) → count ≤ most → length xs ≤ i → min (count + length (flat_map f (drop i xs))) most ≡ min whole most → count ≡ min whole most
all_counted f count most whole i xs small past so_far =
    let none : drop i xs ≡ [] = drop_all i xs past in
    let parts = rw none at so_far in
    omega (arith, parts)

pub one_round : (count size most whole i : ℕ) (x : Round) (xs : List Round) → i < length xs → x ≡ slice_index_or xs i x → size ≡ min (length (items_of_lines x)) most → min (count + items_in (drop i xs)) most ≡ min whole most → min (min (count + size) most + items_in (drop (i + 1) xs)) most ≡ min whole most
one_round count size most whole i x xs within is told so_far =
    let here : drop i xs ≡ slice_index_or xs i x ∷ drop (i + 1) xs = rw add-one (drop-cons xs i x within) in
    let this : drop i xs ≡ x ∷ drop (i + 1) xs = rw (← is) at here in
    let parts = rw this at so_far in
    omega (arith, parts, told)

pub all_rounds : (count most whole i : ℕ) (xs : List Round) → count ≤ most → length xs ≤ i → min (count + items_in (drop i xs)) most ≡ min whole most → count ≡ min whole most
all_rounds count most whole i xs small past so_far =
    let none : drop i xs ≡ [] = drop_all i xs past in
    let parts = rw none at so_far in
    omega (arith, parts)
