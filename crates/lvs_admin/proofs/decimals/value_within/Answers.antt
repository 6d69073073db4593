use Rattle.std.proofs.Common.{arith, ◌+◌, ◌*◌, drop}
use Rattle.std.proofs.lemmas.Grind.{common_steps}
use Rattle.lvs_admin.proofs.Digits.{past_limit}
use Rattle.lvs_admin.proofs.decimals.value_within.Goals as goal

pub returns-then-number-limit : goal.returns-then-number-limit
returns-then-number-limit c =
    past_limit c.args.limit (10 * c.loop-digit.number + c.from.result) (drop (c.loop-digit.digit-index + 1) c.args.word.now) c.args.word.now (omega arith) (grind (arith, common_steps))
