-- What the code's answers say.
use Rattle.std.specs.Prelude.{Result, Ok, Err}
use Rattle.lvs_model.specs.declared.admin.WordsRead.{WordsRead}
use Rattle.lvs_model.specs.declared.admin.BadWord.{BadWord}

-- what was read, or the refused word
abbrev pub read_or_refused : Result (Unit {0}) BadWord → WordsRead → Result WordsRead BadWord
read_or_refused (Ok done) read = Ok read
read_or_refused (Err bad) read = Err bad
