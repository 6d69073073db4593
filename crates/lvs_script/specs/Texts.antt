-- What answers of the code stand for.
use Rattle.std.specs.Prelude.{Result, Ok, Err}

-- what is left after a step, or why it was refused
abbrev pub read_or_refused : {S E : Type 0} → Result (Unit {0}) E → S → Result S E
read_or_refused (Ok done) left = Ok left
read_or_refused (Err why) left = Err why
