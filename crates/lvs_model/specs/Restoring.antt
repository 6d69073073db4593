-- Reading saved tables back: the commands that the lines of a text are, or the first refused line (this project's profile).
use Rattle.std.specs.Prelude.{ℕ, ◌+◌, List, [], ◌∷◌, ◌++◌, Option, Some, None, Result, Ok, Err, if◌then◌else◌}
use Rattle.std.specs.Option.{option_to_list}
use Rattle.lvs_types.specs.declared.script.WordsCause.{WordsCause}
use Rattle.lvs_types.specs.declared.script.WordsCause.TheVariants as cause
use Rattle.lvs_types.specs.declared.command.Command.{Command}
use Rattle.lvs_types.specs.declared.command.Line.{Line}
use Rattle.lvs_types.specs.declared.command.Line.TheVariants.{Edit, Show}
use Rattle.lvs_model.specs.declared.admin.BadWord.{BadWord}
use Rattle.lvs_model.specs.Refusals.{◌>>=◌, refused}
use Rattle.lvs_model.specs.Lines.{lines_of, words_of, is_readable, is_skipped}
use Rattle.lvs_model.specs.AdminLines.{line_of_words}

-- a refused word of a line
pub record BadSaved : Type 0 where
  -- the number of the line, from 1
  pub line : ℕ
  -- the number of the word, from 0
  pub at : ℕ
  pub cause : WordsCause

-- the command of a line; a line that isn't an edit is refused at its first word
abbrev pub command_of_line : Result Line BadWord → Result Command BadWord
command_of_line (Ok (Edit command)) = Ok command
command_of_line (Ok (Show kind)) = refused 0 cause.Extra
command_of_line (Err bad) = Err bad

-- a line that isn't skipped: its bytes are looked at first, and then its words
abbrev pub saved_command : List ℕ → Result Command BadWord
saved_command text = if is_readable text then command_of_line (line_of_words (words_of text)) else refused 0 cause.UnknownOption

-- a refusal at the line of that number
abbrev pub at_saved_line : {A : Type 0} → ℕ → Result A BadWord → Result A BadSaved
at_saved_line number (Ok read) = Ok read
at_saved_line number (Err bad) = Err (record { line = number; at = bad.at; cause = bad.cause })

-- the command of a line, or none where the line is skipped: it has no words, or begins a comment
abbrev pub some_command : Result Command BadWord → Result (Option Command) BadWord
some_command (Ok command) = Ok (Some command)
some_command (Err bad) = Err bad

abbrev pub saved_line : List ℕ → Result (Option Command) BadWord
saved_line text = if is_skipped (words_of text) then Ok None else some_command (saved_command text)

-- the commands of the lines from a number on: the first line that is refused counts
abbrev pub saved_commands : ℕ → List (List ℕ) → Result (List Command) BadSaved
saved_commands number [] = Ok []
saved_commands number (text ∷ texts) = do
  command ← at_saved_line number (saved_line text)
  commands ← saved_commands (number + 1) texts
  Ok (option_to_list command ++ commands)

-- what a text means as saved tables: its commands in order, or the first refused line
abbrev pub restored : List ℕ → Result (List Command) BadSaved
restored text = saved_commands 1 (lines_of text)
