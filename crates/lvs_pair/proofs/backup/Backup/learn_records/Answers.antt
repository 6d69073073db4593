use Rattle.std.proofs.Common.{map, refl, subst}
use Rattle.std.proofs.lemmas.List.{take_all}
use Rattle.lvs_types.specs.declared.item.Item.TheVariants as item
use Rattle.lvs_types.specs.declared.sync.SyncItem.{SyncItem}
use Rattle.lvs_pair.specs.Learning.{Learns}
use Rattle.lvs_pair.proofs.Answers.{on_err}
use Rattle.lvs_pair.proofs.Learns.{mapped_some}
use Rattle.lvs_pair.proofs.backup.Backup.learn_records.Goals as goal

pub returns-in_err-learn_item-clause-err : goal.returns-in_err-learn_item-clause-err
returns-in_err-learn_item-clause-err c = on_err _ _ (mapped_some (λ r. item.Learn c.args.sync_id r) c.args.records.now c.loop-record.record-index _ _ c.args.self.now c.loop-record.self _ c.loop-record-test.true refl c.loop-record.invariant c.in_err-learn_item.ensures.err)

pub returns-clause-learnt : goal.returns-clause-learnt
returns-clause-learnt c = subst (λ l. Learns c.args.self.now c.loop-record.self (map (λ (r : SyncItem). item.Learn c.args.sync_id r) l))
    (take_all c.loop-record.record-index c.args.records.now c.loop-record-test.false) c.loop-record.invariant
