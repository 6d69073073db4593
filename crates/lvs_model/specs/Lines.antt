-- The lines of a text and the words of a line (this project's profile of scripts).
use Rattle.std.specs.Prelude.{ℕ, ◌-◌, Bool, true, false, not, ◌&&◌, ◌||◌, ◌==◌, List, [], ◌∷◌, length, take, slice_index, if◌then◌else◌, nat_le, nat_lt, Option, Some, None}
use Rattle.std.specs.List.{filter, slice_split, list_all, position_or_len, before_first, after_first}

-- a line feed
abbrev pub is_feed : ℕ → Bool
is_feed byte = byte == 10

-- a space or a tab
abbrev pub is_blank : ℕ → Bool
is_blank byte = (byte == 32) || (byte == 9)

-- a line without the carriage return (13) that ends it
abbrev pub without_return : List ℕ → List ℕ
without_return line = if slice_index line (length line - 1) == 13 then take (length line - 1) line else line

-- the lines of the pieces between line feeds: each piece but the last ends with a line feed, and one carriage return before it is cut off; what stands behind the last line feed is a line unless it is empty
abbrev pub lines_of_pieces : List (List ℕ) → List (List ℕ)
lines_of_pieces [] = []
lines_of_pieces (last ∷ []) = if length last == 0 then [] else last ∷ []
lines_of_pieces (piece ∷ next ∷ more) = without_return piece ∷ lines_of_pieces (next ∷ more)

abbrev pub lines_of : List ℕ → List (List ℕ)
lines_of text = lines_of_pieces (slice_split is_feed text)

-- the text before the first byte that passes a test, and the text behind it
abbrev pub cut_by : (ℕ → Bool) → List ℕ → Option (List ℕ × List ℕ)
cut_by test text = if nat_lt (position_or_len test text) (length text) then Some (before_first test text, after_first test text) else None

-- a word isn't empty
abbrev pub is_full : List ℕ → Bool
is_full word = not (length word == 0)

-- the words of a line: the pieces between blanks that are words
abbrev pub words_of : List ℕ → List (List ℕ)
words_of line = filter is_full (slice_split is_blank line)

-- a byte that a line may hold: a printable one (0x20 to 0x7E) or a tab
abbrev pub is_printable : ℕ → Bool
is_printable byte = (nat_le 32 byte && nat_le byte 126) || (byte == 9)

abbrev pub is_readable : List ℕ → Bool
is_readable line = list_all is_printable line

-- a word that begins a comment, with a number sign (35)
abbrev pub is_comment : List ℕ → Bool
is_comment [] = false
is_comment (first ∷ rest) = first == 35

-- a line that is skipped, whatever bytes it holds: it has no words, or its first word begins a comment
abbrev pub is_skipped : List (List ℕ) → Bool
is_skipped [] = true
is_skipped (first ∷ rest) = is_comment first
