-- The sync records of the worked examples: the client's connection to the web service, and its template.
use Rattle.std.specs.Prelude.{ℕ, List, [], ◌∷◌, replicate}
use Rattle.lvs_types.specs.declared.sync.SyncRecord.{SyncRecord}
use Rattle.lvs_model.specs.ExampleItems.{virtual_addr, server_addr}
use Rattle.lvs_examples.specs.Packets.{client}

-- the connection from port 40000 to 192.168.0.n:80, established, by direct routing
abbrev pub connection_to : ℕ → SyncRecord
connection_to n = record {
  code = 6;
  flags = 3;
  state = 1;
  cport = 40000;
  vport = 80;
  dport = 80;
  mark = 0;
  timeout = 900;
  caddr = client;
  vaddr = virtual_addr;
  daddr = server_addr n;
}

-- the client's template for that server
abbrev pub template_to : ℕ → SyncRecord
template_to n = record (connection_to n) { flags = 0x1003; state = 0; cport = 0; timeout = 300 }

-- the message of both records for 192.168.0.1, of the sync id 7: a header of 8 bytes and two records of 36
abbrev pub message_of_both : List ℕ
message_of_both =
    0 ∷ 7 ∷ 0 ∷ 80 ∷ 2 ∷ 1 ∷ 0 ∷ 0 ∷
    0 ∷ 6 ∷ 0 ∷ 0x24 ∷ 0 ∷ 0 ∷ 0 ∷ 3 ∷ 0 ∷ 1 ∷ 0x9C ∷ 0x40 ∷ 0 ∷ 0x50 ∷ 0 ∷ 0x50 ∷ 0 ∷ 0 ∷ 0 ∷ 0 ∷ 0 ∷ 0 ∷ 0x03 ∷ 0x84 ∷
    0xAC ∷ 0x10 ∷ 0 ∷ 9 ∷ 0x0A ∷ 0 ∷ 0 ∷ 1 ∷ 0xC0 ∷ 0xA8 ∷ 0 ∷ 1 ∷
    0 ∷ 6 ∷ 0 ∷ 0x24 ∷ 0 ∷ 0 ∷ 0x10 ∷ 3 ∷ 0 ∷ 0 ∷ 0 ∷ 0 ∷ 0 ∷ 0x50 ∷ 0 ∷ 0x50 ∷ 0 ∷ 0 ∷ 0 ∷ 0 ∷ 0 ∷ 0 ∷ 0x01 ∷ 0x2C ∷
    0xAC ∷ 0x10 ∷ 0 ∷ 9 ∷ 0x0A ∷ 0 ∷ 0 ∷ 1 ∷ 0xC0 ∷ 0xA8 ∷ 0 ∷ 1 ∷ []

-- the same in version 0: a header of 4 bytes and two records of 24
abbrev pub old_message_of_both : List ℕ
old_message_of_both =
    2 ∷ 7 ∷ 0 ∷ 52 ∷
    0 ∷ 6 ∷ 0x9C ∷ 0x40 ∷ 0 ∷ 0x50 ∷ 0 ∷ 0x50 ∷ 0xAC ∷ 0x10 ∷ 0 ∷ 9 ∷ 0x0A ∷ 0 ∷ 0 ∷ 1 ∷ 0xC0 ∷ 0xA8 ∷ 0 ∷ 1 ∷ 0 ∷ 3 ∷ 0 ∷ 1 ∷
    0 ∷ 6 ∷ 0 ∷ 0 ∷ 0 ∷ 0x50 ∷ 0 ∷ 0x50 ∷ 0xAC ∷ 0x10 ∷ 0 ∷ 9 ∷ 0x0A ∷ 0 ∷ 0 ∷ 1 ∷ 0xC0 ∷ 0xA8 ∷ 0 ∷ 1 ∷ 0x10 ∷ 3 ∷ 0 ∷ 0 ∷ []

-- the records of 41 connections
abbrev pub forty_one : List SyncRecord
forty_one = replicate 41 (connection_to 1)
