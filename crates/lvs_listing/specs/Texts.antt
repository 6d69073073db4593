-- What a line adds to the commands before it.
use Rattle.std.specs.Prelude.{List, ◌++◌, Option, Result, Ok, Err}
use Rattle.std.specs.Option.{option_to_list}
use Rattle.lvs_types.specs.declared.command.Command.{Command}
use Rattle.lvs_model.specs.Restoring.{BadSaved}

-- the commands so far and that of a line, or the line's refusal
abbrev pub with_command : List Command → Result (Option Command) BadSaved → Result (List Command) BadSaved
with_command commands (Ok command) = Ok (commands ++ option_to_list command)
with_command commands (Err bad) = Err bad
