-- An input of two parts, cut at the first line that is a given word, as `report`, `capture` or `backup` (this project's profile).
use Rattle.std.specs.Prelude.{ℕ, ◌+◌, List, [], ◌∷◌, ◌++◌, length, if◌then◌else◌, bytes_eq}
use Rattle.std.specs.List.{slice_split, join_with_byte}
use Rattle.lvs_model.specs.Lines.{is_feed, without_return, lines_of_pieces}

pub record Parts : Type 0 where
  -- the bytes before the line
  pub first : List ℕ
  -- the bytes behind its line feed
  pub second : List ℕ
  -- how many lines of the input stand before the second part, the line of the word included
  pub lines : ℕ

-- a line more at the front of the first part
abbrev pub before : List ℕ → Parts → Parts
before piece p = record { first = piece ++ 10 ∷ p.first; second = p.second; lines = 1 + p.lines }

-- nothing stands before the line of the word, and this behind it
abbrev pub cut : List ℕ → Parts
cut behind = record { first = []; second = behind; lines = 1 }

-- what stands behind the last line feed: the word without a line feed of its own, or the end of the first part
abbrev pub last_parts : List ℕ → List ℕ → Parts
last_parts word last = if bytes_eq last word then cut [] else record { first = last; second = []; lines = length (lines_of_pieces (last ∷ [])) }

-- the pieces between line feeds: each but the last is a line, without the carriage return that ends it
abbrev pub parts_of_pieces : List ℕ → List (List ℕ) → Parts
parts_of_pieces word [] = record { first = []; second = []; lines = 0 }
parts_of_pieces word (last ∷ []) = last_parts word last
parts_of_pieces word (piece ∷ next ∷ more) =
    if bytes_eq (without_return piece) word then cut (join_with_byte 10 (next ∷ more)) else before piece (parts_of_pieces word (next ∷ more))

-- the two parts of an input; where no line is the word, all of it is the first part
abbrev pub parts_of : List ℕ → List ℕ → Parts
parts_of word input = parts_of_pieces word (slice_split is_feed input)
