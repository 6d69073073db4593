-- Words on lists that std lacks.
use Rattle.std.specs.Prelude.{not, ◌≡◌, ℕ, ◌<◌, Bool, List, [], ◌∷◌, Option, Some, None, if◌then◌else◌, length, slice_get, nat_le}
use Rattle.std.specs.List.{filter}

-- the first element that passes, changed
abbrev pub update_first : {X : Type 0} → (X → Bool) → (X → X) → List X → List X
update_first p f [] = []
update_first p f (x ∷ xs) = if p x then f x ∷ xs else x ∷ update_first p f xs

-- the elements that don't pass, in order
abbrev pub without : {X : Type 0} → (X → Bool) → List X → List X
without p xs = filter (λ x. not (p x)) xs

-- one element among those in order of a number, before the first with a higher one
abbrev pub insert_by : {X : Type 0} → (X → ℕ) → X → List X → List X
insert_by number x [] = x ∷ []
insert_by number x (y ∷ ys) = if nat_le (number x) (number y) then x ∷ y ∷ ys else y ∷ insert_by number x ys

-- the elements in order of a number, those of one number in the order in which they stood
abbrev pub sorted_by : {X : Type 0} → (X → ℕ) → List X → List X
sorted_by number [] = []
sorted_by number (x ∷ xs) = insert_by number x (sorted_by number xs)

-- of two elements the one with the lower number, the first one where they agree
abbrev pub lower_of : {X : Type 0} → (X → ℕ) → X → Option X → Option X
lower_of number x None = Some x
lower_of number x (Some y) = if nat_le (number x) (number y) then Some x else Some y

-- the element of the least number
abbrev pub least_by : {X : Type 0} → (X → ℕ) → List X → Option X
least_by number [] = None
least_by number (x ∷ xs) = lower_of number x (least_by number xs)

-- a place of an element that was found, or none where none was found
abbrev pub IsPlaceOf : {X : Type 0} → List X → Option X → Option ℕ → Type 0
IsPlaceOf xs found None = found ≡ None
IsPlaceOf xs found (Some i) = (i < length xs) × (found ≡ slice_get xs i)
