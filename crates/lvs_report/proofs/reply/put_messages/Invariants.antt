use Rattle.std.proofs.Common.{◌≡◌, ◌++◌, drop}
use Rattle.lvs_model.specs.Report.{messages_text}
use Rattle.lvs_report.proofs.reply.put_messages.Given as goal

abbrev pub invariant-loop-message : goal.invariant-loop-message
invariant-loop-message l = l.out.items ++ messages_text (drop l.message-index l.messages) ≡ l.initial.out.items ++ messages_text l.messages
