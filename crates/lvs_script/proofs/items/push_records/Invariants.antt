use Rattle.std.proofs.Common.{◌≡◌, ◌++◌, drop, map}
use Rattle.lvs_types.specs.declared.item.Item.TheVariants as item
use Rattle.lvs_types.specs.declared.sync.SyncItem.{SyncItem}
use Rattle.lvs_script.proofs.items.push_records.Given as goal

abbrev pub invariant-loop-record : goal.invariant-loop-record
invariant-loop-record l = l.items.items ++ map (λ (r : SyncItem). item.Learn l.sync_id r) (drop l.record-index l.records) ≡ l.fn.items.items ++ map (λ (r : SyncItem). item.Learn l.sync_id r) l.records
