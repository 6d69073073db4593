-- Scripts and reports that the worked examples of the check are about.
use Rattle.std.specs.Prelude.{ℕ, List, [], ◌∷◌, ◌++◌, None, codes}
use Rattle.lvs_types.specs.declared.command.Command.TheVariants as command
use Rattle.lvs_types.specs.declared.book.Shown.TheVariants as shown
use Rattle.lvs_types.specs.declared.script.Script.{Script}
use Rattle.lvs_types.specs.declared.script.ScriptLine.{ScriptLine}
use Rattle.lvs_types.specs.declared.script.ScriptLine.TheVariants as line
use Rattle.lvs_model.specs.Generated.{demo_addr, syn_flag, tcp_packet}
use Rattle.lvs_model.specs.ExampleItems.{tunnel_source, web, service_with, direct_server}

-- one round at a moment
abbrev pub one_round : ℕ → List ScriptLine → Script
one_round moment lines = record { local = tunnel_source; rounds = record { moment = moment; lines = lines } ∷ [] }

abbrev pub web_service : ScriptLine
web_service = line.Edit (command.AddService (service_with web None))

-- 192.168.0.n
abbrev pub web_server : ℕ → ScriptLine
web_server n = line.Edit (command.AddServer web (direct_server n 80 1 0))

-- a SYN of 172.16.0.9, with both checksums
abbrev pub web_syn : ℕ → ScriptLine
web_syn port = line.Incoming 0 (tcp_packet (record { number = 0xAC100009 }) port demo_addr 80 syn_flag)

-- the bytes of such a packet, from port 40000, 40001 or 40002
abbrev pub first_syn : List ℕ
first_syn = codes "4500002800014000400684b5ac1000090a0000019c4000500000000000000000500220003d380000"

abbrev pub second_syn : List ℕ
second_syn = codes "4500002800014000400684b5ac1000090a0000019c4100500000000000000000500220003d370000"

abbrev pub third_syn : List ℕ
third_syn = codes "4500002800014000400684b5ac1000090a0000019c4200500000000000000000500220003d360000"

-- three connections to two servers
abbrev pub three_syns : Script
three_syns = one_round 0 (web_service ∷ web_server 1 ∷ web_server 2 ∷ web_syn 40000 ∷ web_syn 40001 ∷ web_syn 40002 ∷ [])

-- the same packets without a service, which no director takes
abbrev pub two_strangers : Script
two_strangers = one_round 0 (web_syn 40000 ∷ web_syn 40001 ∷ [])

-- a service with a server, and what stands in its tables
abbrev pub web_tables : Script
web_tables = one_round 5 (web_service ∷ web_server 1 ∷ line.Show shown.List ∷ line.Show shown.Conns ∷ [])

abbrev pub web_head : List ℕ
web_head = codes "round 0 at 5 workers 1 buckets 1"

-- a connection, and a service that goes when the connection is due
abbrev pub due_connection : Script
due_connection = record {
  local = tunnel_source;
  rounds =
      record { moment = 0; lines = web_service ∷ web_server 1 ∷ web_syn 40000 ∷ [] }
      ∷ record { moment = 60; lines = line.Edit (command.RemoveService web) ∷ [] }
      ∷ [];
}

-- the report of its first round by `serial`
abbrev pub connected : List (List ℕ)
connected = codes "round 0 at 0 workers 1 buckets 1" ∷ codes "2 1.0 ok" ∷ codes "3 1.1 ok" ∷ (codes "4 3.0 fwd direct 192.168.0.1 " ++ first_syn) ∷ []
