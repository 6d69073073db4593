use Rattle.std.proofs.Common.{◌+◌, ◌-◌, ◌*◌, ◌∙◌, sym, drop, get_or, arith}
use Rattle.std.proofs.lemmas.Grind.{common_steps}
use Rattle.lvs_model.specs.Decimals.{value_after}
use Rattle.lvs_report.proofs.Digits.{past_digit}
use Rattle.lvs_report.proofs.numbers.value_within.Goals as goal

pub returns-in_default : goal.returns-in_default
returns-in_default c =
    past_digit c.args.limit (10 * c.loop-digit.number + (get_or c.args.word.now c.loop-digit.digit-index 0 - 48)) (value_after 0 c.args.word.now) (drop (c.loop-digit.digit-index + 1) c.args.word.now) (sym c.in_default.is ∙ c.with_digit.ensures) (grind (arith, common_steps))
