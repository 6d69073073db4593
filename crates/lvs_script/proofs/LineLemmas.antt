-- The lines of a script, by the first and the rest.
use Rattle.std.proofs.Common.{◌≡◌, ℕ, ◌+◌, List, ◌∷◌, Result, Ok, Err, sym, ◌∙◌, ap}
use Rattle.lvs_types.specs.declared.script.ScriptCause.{ScriptCause}
use Rattle.lvs_model.specs.declared.script.BadLine.{BadLine}
use Rattle.lvs_model.specs.Refusals.{◌>>=◌}
use Rattle.lvs_model.specs.Scripts.{ScriptRead, at_line, take_line, take_lines}

abbrev pub stopped_at : ScriptCause → ℕ → Result ScriptRead BadLine
stopped_at why number = Err (record { line = number; cause = why })

abbrev pub going_on : ℕ → List (List ℕ) → Result ScriptRead ScriptCause → Result ScriptRead BadLine
going_on number texts read = at_line number read >>= (λ (next : ScriptRead). take_lines (number + 1) texts next)

-- a line that is read
pub lines_step : (number : ℕ) (line text : List ℕ) (texts : List (List ℕ)) (all : List (List ℕ)) (s next : ScriptRead) (whole : Result ScriptRead BadLine) → text ≡ line → all ≡ line ∷ texts → take_line text s ≡ Ok next → take_lines number all s ≡ whole → take_lines (number + 1) texts next ≡ whole
lines_step number line text texts all s next whole same cut read so_far =
    sym (ap (λ (a : List (List ℕ)). take_lines number a s) cut ∙ ap (going_on number texts) (ap (λ (t : List ℕ). take_line t s) (sym same) ∙ read)) ∙ so_far

-- a line that is refused
pub lines_stop : (number at : ℕ) (line text : List ℕ) (texts : List (List ℕ)) (all : List (List ℕ)) (s : ScriptRead) (why : ScriptCause) (whole : Result ScriptRead BadLine) → text ≡ line → all ≡ line ∷ texts → (at ≡ number) × (take_line text s ≡ Err why) → take_lines number all s ≡ whole → whole ≡ stopped_at why at
lines_stop number at line text texts all s why whole same cut refused so_far =
    sym so_far
    ∙ ap (λ (a : List (List ℕ)). take_lines number a s) cut
    ∙ ap (going_on number texts) (ap (λ (t : List ℕ). take_line t s) (sym same) ∙ refused.1)
    ∙ ap (stopped_at why) (sym refused.0)
