use Rattle.std.proofs.Common.{◌≡◌, ◌++◌, drop, length, flat_map}
use Rattle.lvs_model.specs.Messages.{record_bytes, header_bytes}
use Rattle.lvs_sync_codec.proofs.writing.write_new.Given as goal

abbrev pub invariant-loop-item : goal.invariant-loop-item
invariant-loop-item l =
    l.out.items ++ flat_map record_bytes (drop l.item-index l.items) ≡ header_bytes l.sync_id (length l.items) ++ flat_map record_bytes l.items
