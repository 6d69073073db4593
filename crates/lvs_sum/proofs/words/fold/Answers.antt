use Rattle.std.proofs.Common.{◌≡◌, ◌+◌, ◌∙◌, arith, ap}
use Rattle.lvs_sum.specs.Sums.{folded, word_sum}
use Rattle.lvs_sum.proofs.words.fold.Goals as goal

pub returns : goal.returns
returns c =
    let with : folded (c.with_word.result + 0) ≡ folded (c.loop-rest.sum + c.last_word.result + 0) = c.with_word.ensures 0 in
    let left : c.with_word.result ≡ c.with_word.result + 0 = omega arith in
    let right : c.loop-rest.sum + c.last_word.result + 0 ≡ c.loop-rest.sum + word_sum c.loop-rest.rest.now = omega (arith, c.last_word.ensures) in
    c.carried.ensures ∙ ap folded left ∙ with ∙ ap folded right ∙ c.loop-rest.invariant
