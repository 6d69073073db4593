-- The lines of a text from a place on.
use Rattle.std.specs.Prelude.{◌≡◌, ℕ, List, [], ◌∷◌, drop, length, Option, Some, None, if◌then◌else◌, nat_lt}
use Rattle.std.specs.List.{slice_split}
use Rattle.lvs_model.specs.Lines.{is_feed}

-- none where the place is past the text's end
abbrev pub lines_from_place : List ℕ → ℕ → List (List ℕ)
lines_from_place text at = if nat_lt (length text) at then [] else slice_split is_feed (drop at text)

-- the first of these lines, where there is one
abbrev pub IsFirst : List (List ℕ) → Option (List ℕ) → Type 0
IsFirst lines None = lines ≡ []
IsFirst lines (Some line) = (later : List (List ℕ)) × (lines ≡ line ∷ later)

-- a line with its line feed
abbrev pub IsWhole : List ℕ → List ℕ → Type 0
IsWhole whole text = slice_split is_feed whole ≡ text ∷ [] ∷ []
