use Rattle.std.proofs.Common.{◌≡◌, ◌++◌, drop, map}
use Rattle.lvs_model.specs.AdminWords.{split_words}
use Rattle.lvs_admin.proofs.splitting.split_words.Given as goal

abbrev pub invariant-loop-word : goal.invariant-loop-word
invariant-loop-word l = l.split.items ++ split_words (map (λ word. word.now) (drop l.word-index l.words)) ≡ split_words (map (λ word. word.now) l.words)
