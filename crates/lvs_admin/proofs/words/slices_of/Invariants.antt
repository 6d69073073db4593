use Rattle.std.proofs.Common.{◌≡◌, ◌++◌, drop, map, string_bytes}
use Rattle.lvs_admin.proofs.words.slices_of.Given as goal

abbrev pub invariant-loop-word : goal.invariant-loop-word
invariant-loop-word l = map (λ word. word.now) l.slices.items ++ map string_bytes (drop l.word-index l.words) ≡ map string_bytes l.words
