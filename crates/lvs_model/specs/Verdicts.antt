-- The text of the verdict on a report (this project's profile).
use Rattle.std.specs.Prelude.{ℕ, List, [], ◌∷◌, ◌++◌, codes, decimal}
use Rattle.lvs_types.specs.declared.report.Verdict.{Verdict}
use Rattle.lvs_types.specs.declared.report.Verdict.TheVariants as verdict

-- each line with its line feed; the word before an empty text keeps its blank
abbrev pub verdict_text : Verdict → List ℕ
verdict_text verdict.Legal = codes "legal" ++ 10 ∷ []
verdict_text (verdict.Illegal line expected found) =
    codes "illegal line " ++ decimal line ++ 10 ∷ [] ++ codes "expected " ++ expected ++ 10 ∷ [] ++ codes "found " ++ found ++ 10 ∷ []
verdict_text (verdict.Unreadable line) = codes "unreadable line " ++ decimal line ++ 10 ∷ []
