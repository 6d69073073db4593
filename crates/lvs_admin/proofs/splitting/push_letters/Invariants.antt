use Rattle.std.proofs.Common.{◌≡◌, ◌++◌, drop, map}
use Rattle.lvs_model.specs.AdminWords.{letter_word}
use Rattle.lvs_admin.proofs.splitting.push_letters.Given as goal

abbrev pub invariant-loop-letter : goal.invariant-loop-letter
invariant-loop-letter l = l.words.items ++ map letter_word (drop l.letter-index l.letters) ≡ l.fn.words.items ++ map letter_word l.letters
