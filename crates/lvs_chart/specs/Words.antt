-- The words of the command line, the program's name left out (this project's profile).
use Rattle.std.specs.Prelude.{ℕ, List, [], ◌∷◌, Option, Some, None, if◌then◌else◌, codes, nat_eq}
use Rattle.std.specs.Cmp.Lexicographic.{pointwise}

-- the number of the first word that is refused: there is none, or `--help` alone
abbrev pub refused_word : List (List ℕ) → Option ℕ
refused_word [] = None
refused_word (word ∷ []) = if pointwise nat_eq word (codes "--help") then None else Some 0
refused_word (word ∷ more ∷ rest) = if pointwise nat_eq word (codes "--help") then Some 1 else Some 0
