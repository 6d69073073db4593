-- What the worked examples of sync messages are about: a connection from 172.16.0.9:40000 to 10.0.0.1:80 on the server 192.168.0.1:8080, and the template of a mark service.
use Rattle.std.specs.Prelude.{ℕ, List, [], ◌∷◌, Some, None}
use Rattle.lvs_types.specs.declared.service.Proto.TheVariants.{Tcp}
use Rattle.lvs_types.specs.declared.service.Method.TheVariants.{Masq, Direct}
use Rattle.lvs_types.specs.declared.entry.Entry.{Entry}
use Rattle.lvs_types.specs.declared.entry.TcpState.TheVariants.{Established}
use Rattle.lvs_types.specs.declared.template.Template.{Template}
use Rattle.lvs_types.specs.declared.sync.SyncRecord.{SyncRecord}

-- the record of the connection
abbrev pub connection : SyncRecord
connection = record {
  code = 6;
  flags = 0;
  state = 1;
  cport = 40000;
  vport = 80;
  dport = 8080;
  mark = 0;
  timeout = 900;
  caddr = record { number = 0xac100009 };
  vaddr = record { number = 0x0a000001 };
  daddr = record { number = 0xc0a80001 };
}

-- the message of that record as a Linux 6.1 director with sync id 7 sent it
abbrev pub version_1 : List ℕ
version_1 =
    0 ∷ 7 ∷ 0 ∷ 0x2c ∷ 1 ∷ 1 ∷ 0 ∷ 0 ∷
    0 ∷ 6 ∷ 0 ∷ 0x24 ∷ 0 ∷ 0 ∷ 0 ∷ 0 ∷ 0 ∷ 1 ∷ 0x9c ∷ 0x40 ∷ 0 ∷ 0x50 ∷ 0x1f ∷ 0x90 ∷ 0 ∷ 0 ∷ 0 ∷ 0 ∷ 0 ∷ 0 ∷ 3 ∷ 0x84 ∷
    0xac ∷ 0x10 ∷ 0 ∷ 9 ∷ 0x0a ∷ 0 ∷ 0 ∷ 1 ∷ 0xc0 ∷ 0xa8 ∷ 0 ∷ 1 ∷ []

-- the same connection in version 0
abbrev pub version_0 : List ℕ
version_0 =
    1 ∷ 7 ∷ 0 ∷ 0x1c ∷
    0 ∷ 6 ∷ 0x9c ∷ 0x40 ∷ 0 ∷ 0x50 ∷ 0x1f ∷ 0x90 ∷
    0xac ∷ 0x10 ∷ 0 ∷ 9 ∷ 0x0a ∷ 0 ∷ 0 ∷ 1 ∷ 0xc0 ∷ 0xa8 ∷ 0 ∷ 1 ∷ 0 ∷ 0 ∷ 0 ∷ 1 ∷ []

-- what version 0 tells of it
abbrev pub old_connection : SyncRecord
old_connection = record connection { timeout = 0 }

-- the entry of the connection, after its second packet
abbrev pub entry : Entry
entry = record {
  id = 1;
  key = record { proto = Tcp; caddr = record { number = 0xac100009 }; cport = 40000; vaddr = record { number = 0x0a000001 }; vport = 80 };
  server = None;
  method = Masq;
  daddr = record { number = 0xc0a80001 };
  dport = 8080;
  state = Some Established;
  timeout = 900;
  deadline = 900;
  packets = 2;
  template = None;
  mark = 0;
}

-- a template of the service of mark 7, by direct routing
abbrev pub template : Template
template = record {
  id = record { 0 = 1 };
  key = record { code = 0; client = record { number = 0xac100000 }; vaddr = record { number = 7 }; vport = 0 };
  server = None;
  method = Direct;
  daddr = record { number = 0xc0a80002 };
  dport = 0;
  timeout = 300;
  deadline = 300;
}

-- the record of that template
abbrev pub template_record : SyncRecord
template_record = record {
  code = 0;
  flags = 0x1003;
  state = 0;
  cport = 0;
  vport = 0;
  dport = 0;
  mark = 7;
  timeout = 300;
  caddr = record { number = 0xac100000 };
  vaddr = record { number = 7 };
  daddr = record { number = 0xc0a80002 };
}
