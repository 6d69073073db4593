-- The tables of the worked examples of ICMP errors: a connection from 172.16.0.9:40000 to 10.0.0.1:80 on the server 192.168.0.1:8080.
use Rattle.std.specs.Prelude.{true, false, [], ◌∷◌, Some, None}
use Rattle.lvs_types.specs.declared.service.Proto.TheVariants.{Tcp}
use Rattle.lvs_types.specs.declared.service.Method.TheVariants.{Masq}
use Rattle.lvs_types.specs.declared.service.ServiceKey.TheVariants.{Net}
use Rattle.lvs_types.specs.declared.dest.Dest.{Dest}
use Rattle.lvs_types.specs.declared.entry.TcpState.TheVariants.{Established}
use Rattle.lvs_types.specs.declared.entry.Entry.{Entry}
use Rattle.lvs_types.specs.declared.snapshot.Snapshot.{Snapshot}
use Rattle.lvs_model.specs.ExampleItems.{tunnel_source, virtual_addr, server_addr}
use Rattle.lvs_model.specs.State.{initial}
use Rattle.lvs_model.specs.Snapshots.{snapshot_of}

abbrev pub server : Dest
server = record {
  id = record { 0 = 1 };
  service = Net Tcp virtual_addr 80;
  spec = record { addr = server_addr 1; port = 8080; method = Masq; weight = 1; upper = 0; lower = 0 };
  overloaded = false;
  live = true;
}

abbrev pub connection : Entry
connection = record {
  id = 1;
  key = record { proto = Tcp; caddr = record { number = 0xAC100009 }; cport = 40000; vaddr = virtual_addr; vport = 80 };
  server = Some server.id;
  method = Masq;
  daddr = server_addr 1;
  dport = 8080;
  state = Some Established;
  timeout = 900;
  deadline = 900;
  packets = 1;
  template = None;
  mark = 0;
}

-- tables without anything
abbrev pub no_tables : Snapshot
no_tables = snapshot_of (initial tunnel_source 1)

-- the tables with this server and this connection
abbrev pub tables_of : Dest → Entry → Snapshot
tables_of d e = record no_tables { dests = record { dest = d; active = 1; inactive = 0; templates = 0 } ∷ []; entries = e ∷ [] }

abbrev pub tables : Snapshot
tables = tables_of server connection
