-- One step of the director, and a run of many.
use Rattle.std.specs.Prelude.{ℕ, ◌≤◌, ◌<◌, ◌^◌, List, [], ◌∷◌}
use Rattle.lvs_types.specs.declared.item.Item.{Item}
use Rattle.lvs_types.specs.declared.item.Item.TheVariants as item
use Rattle.lvs_types.specs.declared.reply.Reply.{Reply}
use Rattle.lvs_types.specs.declared.reply.Reply.TheVariants as reply
use Rattle.lvs_model.specs.State.{State}
use Rattle.lvs_model.specs.Incoming.{incoming}
use Rattle.lvs_model.specs.Outgoing.{outgoing}
use Rattle.lvs_model.specs.Edits.{edit, set}
use Rattle.lvs_model.specs.Learning.{learn}
use Rattle.lvs_model.specs.Clock.{tick, sweep, reap}
use Rattle.lvs_model.specs.Sending.{send}

-- what the director answers to an item, and what it then is
abbrev pub step : State → Item → Reply × State
step s (item.Incoming mark bytes) = incoming s mark bytes
step s (item.Outgoing bytes) = outgoing s bytes
step s (item.Edit command) = edit s command
step s (item.Set setting) = set s setting
step s (item.Learn sync_id record_item) = learn s sync_id record_item
step s (item.BadSync why) = (reply.BadMessage why, s)
step s (item.Tick moment) = tick s moment
step s (item.Sweep bucket) = sweep s bucket
step s item.Reap = reap s
step s item.SendSync = send s

abbrev pub run : State → List Item → List Reply × State
run s [] = ([], s)
run s (first ∷ items) = let now = step s first in let later = run now.1 items in (now.0 ∷ later.0, later.1)

-- the item isn't a moment past 2 ^ 32 - 1
abbrev pub IsInRange : Item → Type 0
IsInRange (item.Tick moment) = moment ≤ 4294967295
IsInRange (item.Incoming mark bytes) = Unit {0}
IsInRange (item.Outgoing bytes) = Unit {0}
IsInRange (item.Edit command) = Unit {0}
IsInRange (item.Set setting) = Unit {0}
IsInRange (item.Learn sync_id record_item) = Unit {0}
IsInRange (item.BadSync why) = Unit {0}
IsInRange (item.Sweep bucket) = Unit {0}
IsInRange item.Reap = Unit {0}
IsInRange item.SendSync = Unit {0}

abbrev pub AreInRange : List Item → Type 0
AreInRange [] = Unit {0}
AreInRange (first ∷ items) = IsInRange first × AreInRange items

-- a director that has taken so many steps can still count them
abbrev pub IsYoung : ℕ → Type 0
IsYoung steps = steps < 2 ^ 62
