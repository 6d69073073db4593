-- Lanes, and the acts that name them. A lane is the number of a pass.
use Rattle.std.specs.Prelude.{◌≡◌, ℕ, zero, suc, ◌+◌, ◌<◌, ◌≤◌, ◌||◌, eqb, Bool, true, false, List, [], ◌∷◌, ◌++◌, map, filter}
use Rattle.lvs_book.specs.declared.view.Lane.{Lane}
use Rattle.lvs_book.specs.Sums.{one_if}

-- does the number stand in the list
abbrev pub stands : ℕ → List ℕ → Bool
stands k [] = false
stands k (x ∷ xs) = (eqb x k) || stands k xs

-- how often the number stands in the list
abbrev pub times : ℕ → List ℕ → ℕ
times k [] = 0
times k (x ∷ xs) = one_if (eqb x k) + times k xs

-- the acts of the history that name the lane, in order; `names` gives the lanes of an act
abbrev pub naming : {A : Type 0} → (A → List ℕ) → ℕ → List A → List A
naming names k log = filter (λ a. stands k (names a)) log

-- each act names some lane, and only lanes below n
abbrev pub Within : {A : Type 0} → (A → List ℕ) → ℕ → List A → Type 0
Within names n [] = Unit {0}
Within names n (a ∷ log) = ((k : ℕ) → stands k (names a) ≡ true → k < n) × ((k : ℕ) × (stands k (names a) ≡ true)) × Within names n log

module _ {O A : Type 0} where
  abbrev pub numbers : List (Lane O A) → List ℕ
  numbers ls = map (λ x. x.number) ls

  -- no lane stands twice
  abbrev pub Apart : List (Lane O A) → Type 0
  Apart ls = (k : ℕ) → times k (numbers ls) ≤ 1

  -- the act is one more of each lane
  abbrev pub grown : A → List (Lane O A) → List (Lane O A)
  grown a [] = []
  grown a (x ∷ xs) = record { number = x.number; origin = x.origin; acts = x.acts ++ a ∷ [] } ∷ grown a xs

  -- m lanes from k on, with no acts
  abbrev pub new_lanes : O → ℕ → ℕ → List (Lane O A)
  new_lanes o k zero = []
  new_lanes o k (suc m) = record { number = k; origin = o; acts = [] } ∷ new_lanes o (suc k) m

  -- each lane has this origin
  abbrev pub AllFrom : O → List (Lane O A) → Type 0
  AllFrom o [] = Unit {0}
  AllFrom o (x ∷ xs) = (x.origin ≡ o) × AllFrom o xs

  -- the first lane has this origin
  abbrev pub FirstFrom : O → List (Lane O A) → Type 0
  FirstFrom o [] = ⊥
  FirstFrom o (x ∷ xs) = x.origin ≡ o

  -- each lane has the acts that f says
  abbrev pub HaveActs : (ℕ → List A) → List (Lane O A) → Type 0
  HaveActs f [] = Unit {0}
  HaveActs f (x ∷ xs) = (f x.number ≡ x.acts) × HaveActs f xs

  -- the first lane alone, and the others
  abbrev pub first_lane : List (Lane O A) → List (Lane O A)
  first_lane [] = []
  first_lane (x ∷ xs) = x ∷ []

  abbrev pub other_lanes : List (Lane O A) → List (Lane O A)
  other_lanes [] = []
  other_lanes (x ∷ xs) = xs

module _ {O A : Type 0} (names : A → List ℕ) where
  -- each lane has just the acts of the history that name it
  abbrev pub Own : List A → List (Lane O A) → Type 0
  Own log [] = Unit {0}
  Own log (x ∷ xs) = (x.acts ≡ naming names x.number log) × Own log xs
