-- The moment after an item.
use Rattle.std.specs.Prelude.{ℕ}
use Rattle.lvs_types.specs.declared.item.Item.{Item}
use Rattle.lvs_types.specs.declared.item.Item.TheVariants as item

-- a tick gives the moment, and every other item leaves it
abbrev pub moment_after : ℕ → Item → ℕ
moment_after now (item.Tick moment) = moment
moment_after now (item.Incoming mark bytes) = now
moment_after now (item.Outgoing bytes) = now
moment_after now (item.Edit command) = now
moment_after now (item.Set setting) = now
moment_after now (item.Learn sync_id record_item) = now
moment_after now (item.BadSync why) = now
moment_after now (item.Sweep bucket) = now
moment_after now item.Reap = now
moment_after now item.SendSync = now
