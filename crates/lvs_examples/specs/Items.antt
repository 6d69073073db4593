-- Short words for the items and runs of the worked examples, beside those of lvs_model's ExampleItems.
use Rattle.std.specs.Prelude.{ℕ, List}
use Rattle.lvs_types.specs.declared.service.Method.{Method}
use Rattle.lvs_types.specs.declared.service.Service.{Service}
use Rattle.lvs_types.specs.declared.service.ServiceKey.{ServiceKey}
use Rattle.lvs_types.specs.declared.dest.DestSpec.{DestSpec}
use Rattle.lvs_types.specs.declared.command.Command.TheVariants as command
use Rattle.lvs_types.specs.declared.item.Item.{Item}
use Rattle.lvs_types.specs.declared.item.Item.TheVariants as item
use Rattle.lvs_types.specs.declared.sync.SyncItem.TheVariants.{V4}
use Rattle.lvs_types.specs.declared.sync.SyncRecord.{SyncRecord}
use Rattle.lvs_types.specs.declared.reply.Reply.{Reply}
use Rattle.lvs_model.specs.ExampleItems.{direct_server, left_by}
use Rattle.lvs_model.specs.Step.{run}
use Rattle.lvs_examples.specs.Packets.{Segment, bytes_of}

-- the replies to items that come after others
abbrev pub replies_after : List Item → List Item → List Reply
replies_after before items = (run (left_by before) items).0

abbrev pub add_service : Service → Item
add_service service = item.Edit (command.AddService service)

abbrev pub edit_service : Service → Item
edit_service service = item.Edit (command.EditService service)

abbrev pub add_server : ServiceKey → DestSpec → Item
add_server key spec = item.Edit (command.AddServer key spec)

-- the server 192.168.0.n at this port, by this method, of weight 1
abbrev pub server_by : Method → ℕ → ℕ → DestSpec
server_by method n port = record (direct_server n port 1 0) { method = method }

-- a packet comes in with this mark, or without one
abbrev pub marked : ℕ → Segment → Item
marked mark segment = item.Incoming mark (bytes_of segment)

abbrev pub arriving : Segment → Item
arriving segment = marked 0 segment

-- a server's packet goes out
abbrev pub leaving : Segment → Item
leaving segment = item.Outgoing (bytes_of segment)

-- a master and a backup of the sync id 7, and a record that a master of that id sent
abbrev pub start_master : Item
start_master = item.Edit (command.StartMaster 7)

abbrev pub start_backup : Item
start_backup = item.Edit (command.StartBackup 7)

abbrev pub learn_from_master : SyncRecord → Item
learn_from_master r = item.Learn 7 (V4 r)
