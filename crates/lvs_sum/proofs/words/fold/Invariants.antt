use Rattle.std.proofs.Common.{◌≡◌, ◌+◌, length}
use Rattle.lvs_sum.specs.Sums.{word_sum, folded}
use Rattle.lvs_sum.proofs.words.fold.Given as goal

abbrev pub invariant-loop-rest : goal.invariant-loop-rest
invariant-loop-rest l = folded (l.sum + word_sum l.rest) ≡ folded (word_sum l.bytes)

abbrev pub decreases-loop-rest : goal.decreases-loop-rest
decreases-loop-rest l = length l.rest
