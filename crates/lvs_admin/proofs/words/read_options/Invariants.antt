use Rattle.std.proofs.Common.{◌≡◌, ◌+◌, drop}
use Rattle.lvs_model.specs.AdminWords.{take_words}
use Rattle.lvs_admin.proofs.words.read_options.Given as goal

abbrev pub invariant-loop-index : goal.invariant-loop-index
invariant-loop-index l = take_words (l.index + 1) (drop l.index l.words) l.reader.read ≡ take_words 1 l.words l.fn.reader.read
