-- What the worked examples of the laws Keep and Takeover run: one connection, and the record of one.
use Rattle.std.specs.Prelude.{ℕ, true, false, [], ◌∷◌, Some, None}
use Rattle.lvs_types.specs.declared.addr.Addr.{Addr}
use Rattle.lvs_types.specs.declared.head.Head.{Head}
use Rattle.lvs_types.specs.declared.service.Proto.TheVariants.{Tcp}
use Rattle.lvs_types.specs.declared.service.Method.TheVariants.{Tunnel, Direct}
use Rattle.lvs_types.specs.declared.command.Command.TheVariants as command
use Rattle.lvs_types.specs.declared.settings.Setting.TheVariants.{ExpireNodest}
use Rattle.lvs_types.specs.declared.entry.Key.{Key}
use Rattle.lvs_types.specs.declared.entry.Entry.{Entry}
use Rattle.lvs_types.specs.declared.entry.TcpState.TheVariants.{SynRecv, Established, TimeWait}
use Rattle.lvs_types.specs.declared.item.Item.{Item}
use Rattle.lvs_types.specs.declared.item.Item.TheVariants as item
use Rattle.lvs_types.specs.declared.sync.SyncItem.TheVariants.{V4}
use Rattle.lvs_types.specs.declared.sync.SyncRecord.{SyncRecord}
use Rattle.lvs_model.specs.ExampleItems.{virtual_addr, server_addr, web, direct_server, add_example_service, add_web_server, syn, left_by, add_example_service}
use Rattle.lvs_model.specs.Packets.{Packet}
use Rattle.lvs_model.specs.State.{State}
use Rattle.lvs_model.specs.Step.{step}

-- 172.16.0.9
abbrev pub client_addr : Addr
client_addr = record { number = 0xAC100009 }

abbrev pub client_key : Key
client_key = record { proto = Tcp; caddr = client_addr; cport = 40000; vaddr = virtual_addr; vport = 80 }

-- A CONNECTION

-- a SYN of the client went to the server 192.168.0.1
abbrev pub one_connection : State
one_connection = left_by (add_example_service web None ∷ add_web_server 1 ∷ syn 40000 ∷ [])

abbrev pub its_entry : Entry
its_entry = record {
  id = 1;
  key = client_key;
  server = Some (record { 0 = 1 });
  method = Direct;
  daddr = server_addr 1;
  dport = 80;
  state = Some SynRecv;
  timeout = 60;
  deadline = 60;
  packets = 1;
  template = None;
  mark = 0;
}

-- connections of removed servers are ended, and those of servers without weight are reused
abbrev pub end_nodest : Item
end_nodest = item.Set (ExpireNodest 1)

-- the server 192.168.0.1 takes no new connections
abbrev pub take_weight : Item
take_weight = item.Edit (command.EditServer web (direct_server 1 80 0 0))

-- A RECORD

abbrev pub start_backup : Item
start_backup = item.Edit (command.StartBackup 7)

-- another director sent the client to the server 192.168.0.2, by direct routing
abbrev pub recorded : SyncRecord
recorded = record {
  code = 6;
  flags = 3;
  state = 1;
  cport = 40000;
  vport = 80;
  dport = 80;
  mark = 0;
  timeout = 900;
  caddr = client_addr;
  vaddr = virtual_addr;
  daddr = server_addr 2;
}

-- the same, in TIME_WAIT
abbrev pub recorded_waiting : SyncRecord
recorded_waiting = record recorded { state = 5 }

-- a backup with the two servers, and one without a service
abbrev pub backup : State
backup = left_by (add_example_service web None ∷ add_web_server 1 ∷ add_web_server 2 ∷ start_backup ∷ [])

abbrev pub bare_backup : State
bare_backup = left_by (start_backup ∷ [])

abbrev pub recorded_entry : Entry
recorded_entry = record {
  id = 1;
  key = client_key;
  server = Some (record { 0 = 2 });
  method = Direct;
  daddr = server_addr 2;
  dport = 80;
  state = Some Established;
  timeout = 900;
  deadline = 900;
  packets = 0;
  template = None;
  mark = 0;
}

-- the head of an ACK of the client
abbrev pub ack_head : Head
ack_head = record {
  header_len = 20;
  total = 40;
  code = 6;
  tos = 0;
  id = 1;
  dont_fragment = true;
  fragment = false;
  ttl = 64;
  src = client_addr;
  dst = virtual_addr;
  sport = 40000;
  dport = 80;
  syn = false;
  ack = true;
  fin = false;
  rst = false;
}

-- A TUNNEL

abbrev pub add_tunnel_server : ℕ → Item
add_tunnel_server n = item.Edit (command.AddServer web (record (direct_server n 80 1 0) { method = Tunnel }))

-- a backup with a server behind a tunnel, where the recorded connection is in TIME_WAIT
abbrev pub tunnel_waiting : State
tunnel_waiting = (step (left_by (add_example_service web None ∷ add_tunnel_server 1 ∷ start_backup ∷ [])) (item.Learn 7 (V4 recorded_waiting))).1

abbrev pub recorded_as_waiting : Entry
recorded_as_waiting = record recorded_entry { state = Some TimeWait; server = None }

-- a SYN of the client of so many bytes
abbrev pub syn_of : ℕ → Packet
syn_of total = record { mark = 0; proto = Tcp; head = record ack_head { total = total; syn = true; ack = false }; bytes = [] }
