-- The director of the worked examples: an ordinary web service by NAT at 100 seconds, with two servers, a third one in the trash, and one connection.
use Rattle.std.specs.Prelude.{ℕ, Bool, true, false, [], ◌∷◌, Some, None}
use Rattle.lvs_types.specs.declared.service.Proto.TheVariants.{Tcp}
use Rattle.lvs_types.specs.declared.service.Method.TheVariants.{Masq}
use Rattle.lvs_types.specs.declared.service.Scheduler.TheVariants.{Wlc}
use Rattle.lvs_types.specs.declared.service.Service.{Service}
use Rattle.lvs_types.specs.declared.dest.Dest.{Dest}
use Rattle.lvs_types.specs.declared.entry.TcpState.TheVariants.{Established}
use Rattle.lvs_types.specs.declared.entry.Entry.{Entry}
use Rattle.lvs_model.specs.State.{State, initial}
use Rattle.lvs_model.specs.ExampleItems.{virtual_addr, server_addr, web}

abbrev pub web_service : Service
web_service = record { key = web; scheduler = Wlc; persist = None; mask_bits = 32; one_packet = false; cursor = record { last = Some (record { 0 = 1 }); cw = 0 } }

-- a server of this id and weight, live or in the trash
abbrev pub web_server : ℕ → ℕ → Bool → Dest
web_server n weight live = record {
  id = record { 0 = n };
  service = web;
  spec = record { addr = server_addr n; port = 8080; method = Masq; weight = weight; upper = 0; lower = 0 };
  overloaded = false;
  live = live;
}

-- from 172.16.0.9:40000 to the first server
abbrev pub web_connection : Entry
web_connection = record {
  id = 1;
  key = record { proto = Tcp; caddr = record { number = 0xAC100009 }; cport = 40000; vaddr = virtual_addr; vport = 80 };
  server = Some (record { 0 = 1 });
  method = Masq;
  daddr = server_addr 1;
  dport = 8080;
  state = Some Established;
  timeout = 900;
  deadline = 1000;
  packets = 2;
  template = None;
  mark = 0;
}

abbrev pub web_director : State
web_director = record (initial (record { number = 0x0A0000FE }) 1) {
  now = 100;
  services = web_service ∷ [];
  dests = web_server 3 1 false ∷ web_server 1 2 true ∷ web_server 2 1 true ∷ [];
  entries = web_connection ∷ [];
}
