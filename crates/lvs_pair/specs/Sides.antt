-- What the holder of a pass knows of the queue, and how each kind of step changes it.
use Rattle.std.specs.Prelude.{◌≡◌, ℕ, List, [], ◌∷◌, ◌++◌, length, drop}
use Rattle.lvs_pair.specs.declared.rule.Side.{Side}
use Rattle.lvs_pair.specs.declared.rule.Side.TheVariants.{Both, Posts, Takes, Spent}

abbrev pub posted_of : Side → List (List ℕ)
posted_of (Both posted taken) = posted
posted_of (Posts posted) = posted
posted_of (Takes taken) = []
posted_of Spent = []

abbrev pub taken_of : Side → List (List ℕ)
taken_of (Both posted taken) = taken
taken_of (Posts posted) = []
taken_of (Takes taken) = taken
taken_of Spent = []

-- what was posted and not taken, where both have ended
abbrev pub left_of : Side → List (List ℕ)
left_of side = drop (length (taken_of side)) (posted_of side)

-- nothing was posted yet
abbrev pub begun : Side
begun = Both [] []

abbrev pub spent : Side
spent = Spent

abbrev pub with_posted : List ℕ → Side → Side
with_posted message (Both posted taken) = Both (posted ++ message ∷ []) taken
with_posted message (Posts posted) = Posts (posted ++ message ∷ [])
with_posted message (Takes taken) = Takes taken
with_posted message Spent = Spent

abbrev pub with_taken : List ℕ → Side → Side
with_taken message (Both posted taken) = Both posted (taken ++ message ∷ [])
with_taken message (Posts posted) = Posts posted
with_taken message (Takes taken) = Takes (taken ++ message ∷ [])
with_taken message Spent = Spent

-- where both have ended, the queue holds these messages
abbrev pub Holds : Side → List (List ℕ) → Type 0
Holds (Both posted taken) messages = posted ≡ taken ++ messages
Holds (Posts posted) messages = Unit {0}
Holds (Takes taken) messages = Unit {0}
Holds Spent messages = Unit {0}

-- where both have ended, this message is the next
abbrev pub Leads : Side → List ℕ → Type 0
Leads side message = (later : List (List ℕ)) × Holds side (message ∷ later)

abbrev pub poster_of : Side → Side
poster_of side = Posts (posted_of side)

abbrev pub taker_of : Side → Side
taker_of side = Takes (taken_of side)

abbrev pub both_of : Side → Side → Side
both_of poster taker = Both (posted_of poster) (taken_of taker)

abbrev pub IsBoth : Side → Type 0
IsBoth (Both posted taken) = Unit {0}
IsBoth (Posts posted) = ⊥
IsBoth (Takes taken) = ⊥
IsBoth Spent = ⊥

abbrev pub IsPoster : Side → Type 0
IsPoster (Both posted taken) = ⊥
IsPoster (Posts posted) = Unit {0}
IsPoster (Takes taken) = ⊥
IsPoster Spent = ⊥

abbrev pub IsTaker : Side → Type 0
IsTaker (Both posted taken) = ⊥
IsTaker (Posts posted) = ⊥
IsTaker (Takes taken) = Unit {0}
IsTaker Spent = ⊥
