-- The packets of the worked examples, field by field, with the sums that they carry.
use Rattle.std.specs.Prelude.{ℕ, List, [], ◌∷◌, ◌++◌, replicate}
use Rattle.lvs_types.specs.declared.addr.Addr.{Addr}
use Rattle.lvs_model.specs.Fields.{word_bytes, addr_bytes}
use Rattle.lvs_model.specs.ExampleItems.{virtual_addr, server_addr}

-- 172.16.0.9
abbrev pub client : Addr
client = record { number = 0xAC100009 }

-- 10.0.0.2, at which no service stands
abbrev pub other_addr : Addr
other_addr = record { number = 0x0A000002 }

-- what varies of a TCP packet of 40 bytes without options and data
pub record Segment : Type 0 where
  -- the word of the flags and of the fragment's offset: 0x4000 is don't fragment, 0x2000 more fragments
  pub fragment : ℕ
  pub header_sum : ℕ
  pub source : Addr
  pub sport : ℕ
  pub destination : Addr
  pub dport : ℕ
  -- FIN 1, SYN 2, RST 4, ACK 16
  pub flags : ℕ
  pub sum : ℕ

-- the bytes: identification 1, TTL 64, window 0x2000, all other fields 0 (RFC 791, section 3.1; RFC 9293, section 3.1)
abbrev pub bytes_of : Segment → List ℕ
bytes_of s =
    0x45 ∷ 0 ∷ word_bytes 40
    ++ word_bytes 1
    ++ word_bytes s.fragment
    ++ 64 ∷ 6 ∷ word_bytes s.header_sum
    ++ addr_bytes s.source
    ++ addr_bytes s.destination
    ++ word_bytes s.sport
    ++ word_bytes s.dport
    ++ 0 ∷ 0 ∷ 0 ∷ 0 ∷ 0 ∷ 0 ∷ 0 ∷ 0 ∷ 0x50 ∷ s.flags ∷ word_bytes 0x2000
    ++ word_bytes s.sum
    ++ 0 ∷ 0 ∷ []

-- the client's SYN to the service 10.0.0.1:80
abbrev pub syn_segment : Segment
syn_segment = record {
  fragment = 0x4000;
  header_sum = 0x84B5;
  source = client;
  sport = 40000;
  destination = virtual_addr;
  dport = 80;
  flags = 2;
  sum = 0x3D38;
}

abbrev pub ack_segment : Segment
ack_segment = record syn_segment { flags = 16; sum = 0x3D2A }

-- both at the masqueraded server 192.168.0.1:8080
abbrev pub syn_at_server : Segment
syn_at_server = record syn_segment { header_sum = 0xCE0C; destination = server_addr 1; dport = 8080; sum = 0x674F }

abbrev pub ack_at_server : Segment
ack_at_server = record ack_segment { header_sum = 0xCE0C; destination = server_addr 1; dport = 8080; sum = 0x6741 }

-- the server's SYN with ACK, as it leaves the server and as it reaches the client
abbrev pub answer_segment : Segment
answer_segment = record {
  fragment = 0x4000;
  header_sum = 0xCE0C;
  source = server_addr 1;
  sport = 8080;
  destination = client;
  dport = 40000;
  flags = 18;
  sum = 0x673F;
}

abbrev pub answer_from_service : Segment
answer_from_service = record answer_segment { header_sum = 0x84B5; source = virtual_addr; sport = 80; sum = 0x3D28 }

-- a SYN to port 443 of the service's address, and one to port 443 of another address
abbrev pub syn_to_443 : Segment
syn_to_443 = record syn_segment { sport = 40002; dport = 443; sum = 0x3BCB }

abbrev pub syn_elsewhere : Segment
syn_elsewhere = record syn_segment { header_sum = 0x84B4; sport = 40003; destination = other_addr; dport = 443; sum = 0x3BC9 }

-- the client's SYN to the other address
abbrev pub syn_to_other : Segment
syn_to_other = record syn_segment { header_sum = 0x84B4; destination = other_addr; sum = 0x3D37 }

-- the SYN of 172.16.0.10, which is in the client's network of 24 bits, and that of 172.16.1.9, which isn't
abbrev pub syn_of_neighbour : Segment
syn_of_neighbour = record syn_segment { header_sum = 0x84B4; source = record { number = 0xAC10000A }; sum = 0x3D37 }

abbrev pub syn_of_stranger : Segment
syn_of_stranger = record syn_segment { header_sum = 0x83B5; source = record { number = 0xAC100109 }; sum = 0x3C38 }

-- the outer header of the SYN from 10.0.0.254 to the tunnelled server 192.168.0.7 (RFC 2003, section 3.1)
abbrev pub outer_header : List ℕ
outer_header =
    0x45 ∷ 0 ∷ 0 ∷ 0x3C ∷ 0 ∷ 1 ∷ 0x40 ∷ 0 ∷ 0x40 ∷ 4 ∷ 0x6F ∷ 0x10 ∷ 0x0A ∷ 0 ∷ 0 ∷ 0xFE ∷ 0xC0 ∷ 0xA8 ∷ 0 ∷ 7 ∷ []

-- eleven bytes of UDP, `udp_packet` of lvs_model, at the masqueraded server 192.168.0.1:53
abbrev pub udp_at_server : List ℕ
udp_at_server =
    0x45 ∷ 0 ∷ 0 ∷ 0x1F ∷ 0 ∷ 1 ∷ 0x40 ∷ 0 ∷ 0x40 ∷ 0x11 ∷ 0xCE ∷ 0x0A ∷ 0xAC ∷ 0x10 ∷ 0 ∷ 9 ∷ 0xC0 ∷ 0xA8 ∷ 0 ∷ 1 ∷ 0x14 ∷ 0xE9 ∷ 0 ∷ 0x35 ∷ 0 ∷ 11 ∷ 0xB9 ∷ 0x94 ∷ 0x61 ∷ 0x62 ∷ 0x63 ∷ []

-- PACKETS THAT CHANGE NOTHING

-- a SYN of the client of 65,516 bytes, whose tunnel packet would have 65,536
abbrev pub long_syn : List ℕ
long_syn =
    0x45 ∷ 0 ∷ word_bytes 65516
    ++ 0 ∷ 1 ∷ 0x40 ∷ 0 ∷ 0x40 ∷ 6 ∷ 0x84 ∷ 0xF0 ∷ addr_bytes client
    ++ addr_bytes virtual_addr
    ++ word_bytes 40000
    ++ 0 ∷ 80 ∷ 0 ∷ 0 ∷ 0 ∷ 0 ∷ 0 ∷ 0 ∷ 0 ∷ 0 ∷ 0x50 ∷ 2 ∷ replicate 65482 0

-- the first fragment of a packet of the client, and one at offset 185
abbrev pub first_fragment : Segment
first_fragment = record syn_segment { fragment = 0x2000; header_sum = 0xA4B5 }

abbrev pub later_fragment : Segment
later_fragment = record syn_segment { fragment = 185; header_sum = 0xC3FC }

-- a header alone, of protocol 1
abbrev pub icmp_packet : List ℕ
icmp_packet =
    0x45 ∷ 0 ∷ 0 ∷ 20 ∷ 0 ∷ 1 ∷ 0x40 ∷ 0 ∷ 0x40 ∷ 1 ∷ 0x84 ∷ 0xCE ∷ 0xAC ∷ 0x10 ∷ 0 ∷ 9 ∷ 0x0A ∷ 0 ∷ 0 ∷ 1 ∷ []
