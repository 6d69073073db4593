use Rattle.std.proofs.Common.{◌++◌, ◌∙◌}
use Rattle.lvs_pair.proofs.Answers.{on_err}
use Rattle.lvs_pair.proofs.Sends.{copies_start}
use Rattle.lvs_pair.proofs.outbox.hand_in_copies.Goals as goal

pub returns-in_err-copy-clause-err : goal.returns-in_err-copy-clause-err
returns-in_err-copy-clause-err g c = on_err _ _ (copies_start (c.loop-copy.sender.posted ++ c.loop-copy.waiting.items) (c.args.sender.now.posted ++ c.args.waiting.now.items) c.loop-copy._copy c.args.count c.args.message.now c.loop-copy-test.true c.loop-copy.invariant.order)

pub returns-in_err-hand_in-clause-err : goal.returns-in_err-hand_in-clause-err
returns-in_err-hand_in-clause-err g c = on_err _ _ (copies_start (c.hand_in.new.sender.posted ++ c.hand_in.new.waiting.items) (c.args.sender.now.posted ++ c.args.waiting.now.items) c.loop-copy._copy c.args.count c.args.message.now c.loop-copy-test.true
    (c.in_err-hand_in.ensures.err ∙ c.loop-copy.invariant.order))
