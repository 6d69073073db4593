-- The script that `demo` runs: a web service of four servers, and so many clients that each send a SYN and then an ACK (this project's profile).
use Rattle.std.specs.Prelude.{ℕ, ◌+◌, ◌%◌, false, List, [], ◌∷◌, ◌++◌, None, map}
use Rattle.lvs_types.specs.declared.addr.Addr.{Addr}
use Rattle.lvs_types.specs.declared.service.Proto.TheVariants.{Tcp}
use Rattle.lvs_types.specs.declared.service.Method.TheVariants.{Masq}
use Rattle.lvs_types.specs.declared.service.Scheduler.TheVariants.{Rr}
use Rattle.lvs_types.specs.declared.service.Service.{Service}
use Rattle.lvs_types.specs.declared.service.ServiceKey.{ServiceKey}
use Rattle.lvs_types.specs.declared.service.ServiceKey.TheVariants.{Net}
use Rattle.lvs_types.specs.declared.dest.DestSpec.{DestSpec}
use Rattle.lvs_types.specs.declared.command.Command.TheVariants as command
use Rattle.lvs_types.specs.declared.script.Script.{Script}
use Rattle.lvs_types.specs.declared.script.ScriptLine.{ScriptLine}
use Rattle.lvs_types.specs.declared.script.ScriptLine.TheVariants as line
use Rattle.lvs_sum.specs.Sums.{complement, fold}
use Rattle.lvs_model.specs.Fields.{word_bytes, number_bytes, addr_bytes}
use Rattle.lvs_model.specs.Plans.{numbers_from}

-- A TCP PACKET OF 40 BYTES

-- an IP header with a given checksum: version 4 and 5 words, TOS 0, total length 40, identification 1, don't fragment, TTL 64, protocol 6 (RFC 791, section 3.1)
abbrev pub ip_header_with : ℕ → Addr → Addr → List ℕ
ip_header_with sum src dst =
    69 ∷ 0 ∷ word_bytes 40
    ++ word_bytes 1
    ++ 64 ∷ 0 ∷ 64 ∷ 6 ∷ word_bytes sum
    ++ addr_bytes src
    ++ addr_bytes dst

-- the same with its checksum
abbrev pub ip_header : Addr → Addr → List ℕ
ip_header src dst = ip_header_with (complement (fold (ip_header_with 0 src dst))) src dst

-- a TCP header with given flags and a given checksum: sequence and acknowledgement 0, 5 words, window 8192, urgent pointer 0 (RFC 9293, section 3.1)
abbrev pub tcp_header_with : ℕ → ℕ → ℕ → ℕ → List ℕ
tcp_header_with sum sport dport flags =
    word_bytes sport
    ++ word_bytes dport
    ++ number_bytes 0
    ++ number_bytes 0
    ++ 80 ∷ flags ∷ word_bytes 8192
    ++ word_bytes sum
    ++ word_bytes 0

-- what a TCP checksum covers before the header: the addresses, protocol 6 and the length 20 (RFC 9293, section 3.1)
abbrev pub pseudo_header : Addr → Addr → List ℕ
pseudo_header src dst = addr_bytes src ++ addr_bytes dst ++ 0 ∷ 6 ∷ word_bytes 20

-- the checksum of that header
abbrev pub tcp_sum : Addr → ℕ → Addr → ℕ → ℕ → ℕ
tcp_sum src sport dst dport flags = complement (fold (pseudo_header src dst ++ tcp_header_with 0 sport dport flags))

-- a TCP packet of an address and port to an address and port, with these flags and no data, both checksums right
abbrev pub tcp_packet : Addr → ℕ → Addr → ℕ → ℕ → List ℕ
tcp_packet src sport dst dport flags = ip_header src dst ++ tcp_header_with (tcp_sum src sport dst dport flags) sport dport flags

-- the flags' byte of SYN alone and of ACK alone (RFC 9293, section 3.1)
abbrev pub syn_flag : ℕ
syn_flag = 2

abbrev pub ack_flag : ℕ
ack_flag = 16

-- THE SERVICE AND ITS SERVERS

-- 10.0.0.254
abbrev pub demo_local : Addr
demo_local = record { number = 167772414 }

-- 10.0.0.1
abbrev pub demo_addr : Addr
demo_addr = record { number = 167772161 }

-- 10.0.0.1:80 of TCP
abbrev pub demo_key : ServiceKey
demo_key = Net Tcp demo_addr 80

-- `-A -t 10.0.0.1:80 -s rr`
abbrev pub demo_service : Service
demo_service = record {
  key = demo_key;
  scheduler = Rr;
  persist = None;
  mask_bits = 32;
  one_packet = false;
  cursor = record { last = None; cw = 0 };
}

-- `-r 192.168.0.N:80 -m -w 1`
abbrev pub demo_server : ℕ → DestSpec
demo_server number = record {
  addr = record { number = 3232235520 + number };
  port = 80;
  method = Masq;
  weight = 1;
  upper = 0;
  lower = 0;
}

-- the service, then its servers 1 to 4
abbrev pub demo_edits : List ScriptLine
demo_edits = line.Edit (command.AddService demo_service) ∷ map (λ (number : ℕ). line.Edit (command.AddServer demo_key (demo_server number))) (numbers_from 1 4)

-- THE CLIENTS

-- 10.1.0.0 and so many more
abbrev pub client_addr : ℕ → Addr
client_addr number = record { number = 167837696 + number }

abbrev pub client_port : ℕ → ℕ
client_port number = 1024 + number % 60000

-- a client's packet to the service, with mark 0
abbrev pub client_line : ℕ → ℕ → ScriptLine
client_line flags number = line.Incoming 0 (tcp_packet (client_addr number) (client_port number) demo_addr 80 flags)

-- one packet of each client, in order
abbrev pub client_lines : ℕ → ℕ → List ScriptLine
client_lines flags clients = map (client_line flags) (numbers_from 0 clients)

-- at 0 the edits, at 1 the SYN of each client, at 2 the ACK of each
abbrev pub generated : ℕ → Script
generated clients = record {
  local = demo_local;
  rounds =
      record { moment = 0; lines = demo_edits }
      ∷ record { moment = 1; lines = client_lines syn_flag clients }
      ∷ record { moment = 2; lines = client_lines ack_flag clients }
      ∷ [];
}
