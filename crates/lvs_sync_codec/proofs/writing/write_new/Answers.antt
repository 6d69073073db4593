use Rattle.std.proofs.Common.{◌++◌, flat_map, length}
use Rattle.lvs_model.specs.Messages.{record_bytes, header_bytes}
use Rattle.lvs_sync_codec.proofs.Appending.{append_one}
use Rattle.lvs_sync_codec.proofs.writing.write_new.Goals as goal

pub loop-item-preserved : goal.loop-item-preserved
loop-item-preserved c =
    append_one record_bytes c.loop-item.out.items c.put_new_record.new.out.items (header_bytes c.args.sync_id (length c.args.items.now) ++ flat_map record_bytes c.args.items.now) c.loop-item.item-index c.args.items.now c.loop-item-test.true c.in_ok-put_new_record.ensures c.loop-item.invariant
