use Rattle.std.proofs.Common.{◌∙◌, ap, sym, refl, subst}
use Rattle.std.specs.Prelude.{OnOk, OnErr}
use Rattle.lvs_model.specs.MessageReading.{read_sync}
use Rattle.lvs_pair.specs.Learning.{Learns, LearnsSome}
use Rattle.lvs_pair.proofs.Learns.{items_read, learns_none}
use Rattle.lvs_pair.proofs.backup.Backup.learn.Goals as goal

pub returns-in-Err-NoMemory-clause-err : goal.returns-in-Err-NoMemory-clause-err
returns-in-Err-NoMemory-clause-err c = learns_none c.args.self.now c.args.self.now _ refl refl

pub returns-in-Ok-clause-learnt : goal.returns-in-Ok-clause-learnt
returns-in-Ok-clause-learnt c = subst (λ l. OnOk c.learn_records.result (Learns c.args.self.now c.learn_records.new.self l))
    (items_read c.args.message.now c.in-Ok.message c.as_slice-in-Ok.result.now (ap read_sync (sym c.as_slice.ensures) ∙ c.in-Ok.ensures) c.as_slice-in-Ok.ensures) c.learn_records.ensures.learnt

pub returns-in-Ok-clause-err : goal.returns-in-Ok-clause-err
returns-in-Ok-clause-err c = subst (λ l. OnErr c.learn_records.result (LearnsSome c.args.self.now c.learn_records.new.self l))
    (items_read c.args.message.now c.in-Ok.message c.as_slice-in-Ok.result.now (ap read_sync (sym c.as_slice.ensures) ∙ c.in-Ok.ensures) c.as_slice-in-Ok.ensures) c.learn_records.ensures.err
