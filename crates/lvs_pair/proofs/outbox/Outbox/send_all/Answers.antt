use Rattle.lvs_pair.specs.Acting.{handed, coming}
use Rattle.lvs_pair.proofs.Answers.{on_err}
use Rattle.lvs_pair.proofs.Sends.{start_at}
use Rattle.lvs_pair.proofs.outbox.Outbox.send_all.Goals as goal

pub returns-in_err-send-clause-err : goal.returns-in_err-send-clause-err
returns-in_err-send-clause-err g c = on_err _ _ (start_at (handed c.send.new.self) (handed c.loop-message.self) c.args.messages.now c.loop-message.message-index c.message-item.result _ (coming c.loop-message.self) _ c.loop-message-test.true c.message-item.is c.in_err-send.ensures.err c.loop-message.invariant.handed)
