use Rattle.std.proofs.Common.{take, map}
use Rattle.lvs_types.specs.declared.item.Item.TheVariants as item
use Rattle.lvs_types.specs.declared.sync.SyncItem.{SyncItem}
use Rattle.lvs_pair.specs.Learning.{Learns}
use Rattle.lvs_pair.proofs.backup.Backup.learn_records.Given as goal

abbrev pub invariant-loop-record : goal.invariant-loop-record
invariant-loop-record l = Learns l.fn.self l.self (map (λ (r : SyncItem). item.Learn l.sync_id r) (take l.record-index l.records))
