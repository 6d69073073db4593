-- Items that the worked examples run: packets of 172.16.0.9 to the service 10.0.0.1:80, and edits of its servers.
use Rattle.std.specs.Prelude.{ℕ, ◌+◌, false, List, [], ◌∷◌, ◌++◌, Option}
use Rattle.lvs_types.specs.declared.addr.Addr.{Addr}
use Rattle.lvs_types.specs.declared.service.Proto.TheVariants.{Tcp, Udp}
use Rattle.lvs_types.specs.declared.service.Method.TheVariants.{Direct}
use Rattle.lvs_types.specs.declared.service.Scheduler.TheVariants.{Rr}
use Rattle.lvs_types.specs.declared.service.ServiceKey.{ServiceKey}
use Rattle.lvs_types.specs.declared.service.ServiceKey.TheVariants.{Net}
use Rattle.lvs_types.specs.declared.service.Service.{Service}
use Rattle.lvs_types.specs.declared.dest.DestSpec.{DestSpec}
use Rattle.lvs_types.specs.declared.command.Command.TheVariants as command
use Rattle.lvs_types.specs.declared.item.Item.{Item}
use Rattle.lvs_types.specs.declared.item.Item.TheVariants as item
use Rattle.lvs_types.specs.declared.reply.Reply.{Reply}
use Rattle.lvs_types.specs.declared.reply.Reply.TheVariants as reply
use Rattle.lvs_model.specs.Fields.{word_bytes}
use Rattle.lvs_model.specs.Edits.{fresh_cursor}
use Rattle.lvs_model.specs.State.{State, initial}
use Rattle.lvs_model.specs.Step.{run}

abbrev pub tunnel_source : Addr
tunnel_source = record { number = 0x0A0000FE }

abbrev pub virtual_addr : Addr
virtual_addr = record { number = 0x0A000001 }

-- 192.168.0.n
abbrev pub server_addr : ℕ → Addr
server_addr n = record { number = 0xC0A80000 + n }

-- a TCP packet from this port to 10.0.0.1:80, with these flags (FIN 1, SYN 2, RST 4, ACK 16); its TCP checksum isn't looked at
abbrev pub web_packet : ℕ → ℕ → List ℕ
web_packet port flags =
    0x45 ∷ 0 ∷ 0 ∷ 40 ∷ 0 ∷ 1 ∷ 0x40 ∷ 0 ∷ 0x40 ∷ 6 ∷ 0x84 ∷ 0xB5 ∷ 0xAC ∷ 0x10 ∷ 0 ∷ 9 ∷ 10 ∷ 0 ∷ 0 ∷ 1 ∷ []
    ++ word_bytes port
    ++ 0 ∷ 80 ∷ 0 ∷ 0 ∷ 0 ∷ 0 ∷ 0 ∷ 0 ∷ 0 ∷ 0 ∷ 0x50 ∷ flags ∷ 0x20 ∷ 0 ∷ 0 ∷ 0 ∷ 0 ∷ 0 ∷ []

-- eleven bytes of UDP from port 5353 to 10.0.0.1:53
abbrev pub udp_packet : List ℕ
udp_packet =
    0x45 ∷ 0 ∷ 0 ∷ 0x1F ∷ 0 ∷ 1 ∷ 0x40 ∷ 0 ∷ 0x40 ∷ 0x11 ∷ 0x84 ∷ 0xB3 ∷ 0xAC ∷ 0x10 ∷ 0 ∷ 9 ∷ 10 ∷ 0 ∷ 0 ∷ 1 ∷ 0x14 ∷ 0xE9 ∷ 0 ∷ 0x35 ∷ 0 ∷ 11 ∷ 0x70 ∷ 0x3D ∷ 0x61 ∷ 0x62 ∷ 0x63 ∷ []

abbrev pub web : ServiceKey
web = Net Tcp virtual_addr 80

abbrev pub names : ServiceKey
names = Net Udp virtual_addr 53

abbrev pub service_with : ServiceKey → Option ℕ → Service
service_with key persist = record { key = key; scheduler = Rr; persist = persist; mask_bits = 32; one_packet = false; cursor = fresh_cursor }

-- a direct server 192.168.0.n of this port and weight, overloaded at so many connections
abbrev pub direct_server : ℕ → ℕ → ℕ → ℕ → DestSpec
direct_server n port weight upper = record { addr = server_addr n; port = port; method = Direct; weight = weight; upper = upper; lower = 0 }

abbrev pub add_example_service : ServiceKey → Option ℕ → Item
add_example_service key persist = item.Edit (command.AddService (service_with key persist))

abbrev pub add_web_server : ℕ → Item
add_web_server n = item.Edit (command.AddServer web (direct_server n 80 1 0))

abbrev pub remove_web_server : ℕ → Item
remove_web_server n = item.Edit (command.RemoveServer web (server_addr n) 80)

abbrev pub syn : ℕ → Item
syn port = item.Incoming 0 (web_packet port 2)

abbrev pub ack : ℕ → Item
ack port = item.Incoming 0 (web_packet port 16)

abbrev pub reset : ℕ → Item
reset port = item.Incoming 0 (web_packet port 4)

-- the packet goes to 192.168.0.n as it came
abbrev pub direct_to : ℕ → List ℕ → Reply
direct_to n bytes = reply.Forward Direct (server_addr n) bytes

-- the replies to items from the start, with one bucket
abbrev pub replies_to : List Item → List Reply
replies_to items = (run (initial tunnel_source 1) items).0

-- the state that they leave
abbrev pub left_by : List Item → State
left_by items = (run (initial tunnel_source 1) items).1
