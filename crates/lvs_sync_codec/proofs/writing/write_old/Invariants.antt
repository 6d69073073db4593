use Rattle.std.proofs.Common.{◌≡◌, ◌++◌, drop, length, flat_map}
use Rattle.lvs_model.specs.Messages.{old_record_bytes, old_header_bytes}
use Rattle.lvs_sync_codec.proofs.writing.write_old.Given as goal

abbrev pub invariant-loop-item : goal.invariant-loop-item
invariant-loop-item l =
    l.out.items ++ flat_map old_record_bytes (drop l.item-index l.items) ≡ old_header_bytes l.sync_id (length l.items) ++ flat_map old_record_bytes l.items
