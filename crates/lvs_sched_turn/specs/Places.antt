-- What a look among candidates with their places has found.
use Rattle.std.specs.Prelude.{◌≡◌, ℕ, ◌<◌, List, length, Option, Some, None, slice_get}
use Rattle.std.specs.Option.{option_map}
use Rattle.lvs_types.specs.declared.dest.Candidate.{Candidate}

-- the one at that place, or none
abbrev pub IsFound : List Candidate → Option (ℕ × Candidate) → Option ℕ → Type 0
IsFound cs found None = found ≡ None
IsFound cs found (Some place) = (place < length cs) × (found ≡ option_map (λ c. (place, c)) (slice_get cs place))
