-- The commands of a text, line by line.
use Rattle.std.proofs.Common.{◌≡◌, ℕ, ◌+◌, List, [], ◌∷◌, ◌++◌, Option, Result, Ok, Err, refl, sym, ◌∙◌, ap, append_assoc}
use Rattle.std.proofs.lemmas.List.{append-nil}
use Rattle.std.specs.Option.{option_to_list}
use Rattle.lvs_types.specs.declared.command.Command.{Command}
use Rattle.lvs_model.specs.Refusals.{◌>>=◌}
use Rattle.lvs_model.specs.Restoring.{BadSaved, at_saved_line, saved_line, saved_commands}
use Rattle.lvs_listing.specs.Texts.{with_command}

-- these commands before those of further lines
abbrev pub onto : List Command → Result (List Command) BadSaved → Result (List Command) BadSaved
onto prefix (Ok more) = Ok (prefix ++ more)
onto prefix (Err bad) = Err bad

abbrev following : Result (List Command) BadSaved → Option Command → Result (List Command) BadSaved
following more command = more >>= (λ (commands : List Command). Ok (option_to_list command ++ commands))

step_by : (old new : List Command) (read : Result (Option Command) BadSaved) (more : Result (List Command) BadSaved) → with_command old read ≡ Ok new → onto new more ≡ onto old (read >>= following more)
step_by old new (Ok command) (Ok commands) is =
    let pushed : old ++ option_to_list command ≡ new = cc in
    ap (λ (prefix : List Command). Ok (prefix ++ commands)) (sym pushed) ∙ ap Ok (append_assoc old (option_to_list command) commands)
step_by old new (Ok command) (Err bad) is = refl
step_by old new (Err bad) more is = cc

-- a line that is read
pub lines_step : (number : ℕ) (line text : List ℕ) (texts all : List (List ℕ)) (old new : List Command) (whole : Result (List Command) BadSaved) → text ≡ line → all ≡ line ∷ texts → with_command old (at_saved_line number (saved_line text)) ≡ Ok new → onto old (saved_commands number all) ≡ whole → onto new (saved_commands (number + 1) texts) ≡ whole
lines_step number line text texts all old new whole same cut read so_far =
    step_by old new (at_saved_line number (saved_line text)) (saved_commands (number + 1) texts) read
    ∙ ap (λ (t : List ℕ). onto old (at_saved_line number (saved_line t) >>= following (saved_commands (number + 1) texts))) same
    ∙ ap (λ (a : List (List ℕ)). onto old (saved_commands number a)) (sym cut)
    ∙ so_far

-- a line that is refused
pub lines_stop : (number : ℕ) (bad : BadSaved) (line text : List ℕ) (texts all : List (List ℕ)) (old : List Command) (whole : Result (List Command) BadSaved) → text ≡ line → all ≡ line ∷ texts → at_saved_line number (saved_line text) ≡ Err bad → onto old (saved_commands number all) ≡ whole → whole ≡ Err bad
lines_stop number bad line text texts all old whole same cut refused so_far =
    sym so_far
    ∙ ap (λ (a : List (List ℕ)). onto old (saved_commands number a)) cut
    ∙ ap (λ (t : List ℕ). onto old (at_saved_line number (saved_line t) >>= following (saved_commands (number + 1) texts))) (sym same)
    ∙ ap (λ (read : Result (Option Command) BadSaved). onto old (read >>= following (saved_commands (number + 1) texts))) refused

-- all lines are read
pub lines_done : (number : ℕ) (all : List (List ℕ)) (prefix : List Command) (whole : Result (List Command) BadSaved) → all ≡ [] → onto prefix (saved_commands number all) ≡ whole → whole ≡ Ok prefix
lines_done number all prefix whole none so_far =
    sym so_far ∙ ap (λ (a : List (List ℕ)). onto prefix (saved_commands number a)) none ∙ ap Ok (append-nil prefix)
