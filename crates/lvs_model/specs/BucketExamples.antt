-- What the worked examples of buckets are about: connections from 172.16.0.9 to 10.0.0.1:80 on the server 192.168.0.1, in 16 buckets.
use Rattle.std.specs.Prelude.{ℕ, List, [], ◌∷◌, ◌++◌, Some, None}
use Rattle.lvs_types.specs.declared.addr.DestId.{DestId}
use Rattle.lvs_types.specs.declared.service.Proto.TheVariants.{Tcp}
use Rattle.lvs_types.specs.declared.service.Method.{Method}
use Rattle.lvs_types.specs.declared.service.Method.TheVariants.{Direct}
use Rattle.lvs_types.specs.declared.entry.TcpState.{TcpState}
use Rattle.lvs_types.specs.declared.entry.TcpState.TheVariants.{SynRecv}
use Rattle.lvs_types.specs.declared.entry.Key.{Key}
use Rattle.lvs_types.specs.declared.entry.Entry.{Entry}
use Rattle.lvs_types.specs.declared.item.Item.{Item}
use Rattle.lvs_types.specs.declared.item.Item.TheVariants as item
use Rattle.lvs_model.specs.Fields.{word_bytes}
use Rattle.lvs_model.specs.State.{State, initial}
use Rattle.lvs_model.specs.Step.{run}
use Rattle.lvs_model.specs.ExampleItems.{tunnel_source, virtual_addr, server_addr, web, add_example_service, add_web_server, syn}

-- the state that items leave, with 16 buckets
abbrev pub left_in_16 : List Item → State
left_in_16 items = (run (initial tunnel_source 16) items).1

-- a service with one server and no connections
abbrev pub unused : State
unused = left_in_16 (add_example_service web None ∷ add_web_server 1 ∷ [])

-- connections from the ports 40000 and 40001
abbrev pub two_connected : State
two_connected = left_in_16 (add_example_service web None ∷ add_web_server 1 ∷ syn 40000 ∷ syn 40001 ∷ [])

-- the key of the connection from a port
abbrev pub web_key : ℕ → Key
web_key port = record { proto = Tcp; caddr = record { number = 0xAC100009 }; cport = port; vaddr = virtual_addr; vport = 80 }

-- the entry of the connection from a port, in a state with a timeout, since the moment 0
abbrev pub web_entry : ℕ → ℕ → TcpState → ℕ → ℕ → Entry
web_entry id port state timeout packets = record {
  id = id;
  key = web_key port;
  server = Some (record { 0 = 1 });
  method = Direct;
  daddr = server_addr 1;
  dport = 80;
  state = Some state;
  timeout = timeout;
  deadline = timeout;
  packets = packets;
  template = None;
  mark = 0;
}

-- after its first packet, a SYN
abbrev pub new_entry : ℕ → ℕ → Entry
new_entry id port = web_entry id port SynRecv 60 1

-- the same by masquerade
abbrev pub masqueraded : Method → Entry → Entry
masqueraded method e = record e { method = method }

-- bytes of TCP with these ports, and without flags
abbrev pub tcp_part : ℕ → ℕ → List ℕ
tcp_part source destination =
    word_bytes source ++ word_bytes destination ++ 0 ∷ 0 ∷ 0 ∷ 0 ∷ 0 ∷ 0 ∷ 0 ∷ 0 ∷ 0x50 ∷ 0 ∷ 0x20 ∷ 0 ∷ 0 ∷ 0 ∷ 0 ∷ 0 ∷ []

-- from 192.168.0.1, port 80, to a port of the client
abbrev pub answer : ℕ → Item
answer port =
    item.Outgoing (0x45 ∷ 0 ∷ 0 ∷ 40 ∷ 0 ∷ 1 ∷ 0x40 ∷ 0 ∷ 0x40 ∷ 6 ∷ 0xCE ∷ 0x0C ∷ 0xC0 ∷ 0xA8 ∷ 0 ∷ 1 ∷ 0xAC ∷ 0x10 ∷ 0 ∷ 9 ∷ [] ++ tcp_part 80 port)

-- the first fragment of a packet from port 40000
abbrev pub fragment : Item
fragment =
    item.Incoming 0 (0x45 ∷ 0 ∷ 0 ∷ 40 ∷ 0 ∷ 1 ∷ 0x20 ∷ 0 ∷ 0x40 ∷ 6 ∷ 0xA4 ∷ 0xB5 ∷ 0xAC ∷ 0x10 ∷ 0 ∷ 9 ∷ 10 ∷ 0 ∷ 0 ∷ 1 ∷ [] ++ tcp_part 40000 80)

-- a packet of ICMP
abbrev pub icmp_packet : Item
icmp_packet =
    item.Incoming 0 (0x45 ∷ 0 ∷ 0 ∷ 40 ∷ 0 ∷ 1 ∷ 0x40 ∷ 0 ∷ 0x40 ∷ 1 ∷ 0x84 ∷ 0xBA ∷ 0xAC ∷ 0x10 ∷ 0 ∷ 9 ∷ 10 ∷ 0 ∷ 0 ∷ 1 ∷ [] ++ tcp_part 40000 80)
