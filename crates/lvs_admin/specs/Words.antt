-- What the words of the code stand for.
use Rattle.std.specs.Prelude.{ℕ, List}
use Rattle.lvs_admin.specs.declared.splitting.Spelling.{Spelling}
use Rattle.lvs_admin.specs.declared.splitting.Spelling.TheVariants.{Letter, Text}

-- the bytes of a word
abbrev pub spelled : Spelling → List ℕ
spelled (Letter pair) = pair
spelled (Text text) = text.now
