-- The entries and templates that the worked examples expect of the client 172.16.0.9 at the web service 10.0.0.1:80.
use Rattle.std.specs.Prelude.{ℕ, true, false, Some, None}
use Rattle.lvs_types.specs.declared.service.Method.TheVariants.{Masq, Tunnel, Direct}
use Rattle.lvs_types.specs.declared.service.Proto.TheVariants.{Tcp}
use Rattle.lvs_types.specs.declared.dest.Dest.{Dest}
use Rattle.lvs_types.specs.declared.entry.Entry.{Entry}
use Rattle.lvs_types.specs.declared.entry.TcpState.TheVariants.{SynRecv, Established}
use Rattle.lvs_types.specs.declared.template.Template.{Template}
use Rattle.lvs_model.specs.ExampleItems.{virtual_addr, server_addr, web, direct_server}
use Rattle.lvs_examples.specs.Packets.{client}
use Rattle.lvs_examples.specs.Tables.{heavier}

-- its connection from port 40000 to the server 192.168.0.n, of id n, by direct routing: a SYN came at moment 0
abbrev pub direct_entry : ℕ → Entry
direct_entry n = record {
  id = 1;
  key = record { proto = Tcp; caddr = client; cport = 40000; vaddr = virtual_addr; vport = 80 };
  server = Some (record { 0 = n });
  method = Direct;
  daddr = server_addr n;
  dport = 80;
  state = Some SynRecv;
  timeout = 60;
  deadline = 60;
  packets = 1;
  template = None;
  mark = 0;
}

-- the same by masquerade to 192.168.0.1:8080: after the SYN, after the server's answer at moment 5, and after the client's ACK at moment 10
abbrev pub after_syn : Entry
after_syn = record (direct_entry 1) { method = Masq; dport = 8080 }

abbrev pub after_answer : Entry
after_answer = record after_syn { deadline = 65 }

abbrev pub after_ack : Entry
after_ack = record after_answer { state = Some Established; timeout = 900; deadline = 910; packets = 2 }

-- the connection as a record told it at moment 20, with an entry of its own: established, and no packet has come
abbrev pub learnt_entry : ℕ → Entry
learnt_entry n = record (direct_entry n) { state = Some Established; timeout = 900; deadline = 920; packets = 0 }

-- the client's template for the server 192.168.0.n, of id n, by direct routing: made at moment 0, for 300 seconds
abbrev pub client_template : ℕ → Template
client_template n = record {
  id = record { 0 = 1 };
  key = record { code = 6; client = client; vaddr = virtual_addr; vport = 80 };
  server = Some (record { 0 = n });
  method = Direct;
  daddr = server_addr n;
  dport = 80;
  timeout = 300;
  deadline = 300;
}

-- the templates of the networks 172.16.0.0 and 172.16.1.0, of 24 bits: renewed and made at moment 10
abbrev pub network_template : Template
network_template = record (client_template 1) {
  key = record { code = 6; client = record { number = 0xAC100000 }; vaddr = virtual_addr; vport = 80 };
  deadline = 310;
}

abbrev pub other_network_template : Template
other_network_template = record (client_template 2) {
  id = record { 0 = 2 };
  key = record { code = 6; client = record { number = 0xAC100100 }; vaddr = virtual_addr; vport = 80 };
  deadline = 310;
}

-- the client's template at the service of mark 7, whose server takes every port
abbrev pub mark_template : Template
mark_template = record (client_template 1) {
  key = record { code = 0; client = client; vaddr = record { number = 7 }; vport = 0 };
  dport = 0;
}

-- its template at the UDP service 10.0.0.1:53
abbrev pub name_template : Template
name_template = record (client_template 1) { key = record { code = 17; client = client; vaddr = virtual_addr; vport = 53 }; dport = 53 }

-- the template of a record that came before its service, for the server 192.168.0.7
abbrev pub unbound_template : Template
unbound_template = record (client_template 7) { server = None }

-- the same, bound to the server of this id, which is tunnelled
abbrev pub tunnelled_template : ℕ → Template
tunnelled_template id = record unbound_template { server = Some (record { 0 = id }); method = Tunnel }

-- the server 192.168.0.n, of id n
abbrev pub live_server : ℕ → Dest
live_server n = record { id = record { 0 = n }; service = web; spec = direct_server n 80 1 0; overloaded = false; live = true }

abbrev pub trashed_server : Dest
trashed_server = record (live_server 1) { live = false }

abbrev pub revived_server : Dest
revived_server = record (live_server 1) { spec = heavier }
