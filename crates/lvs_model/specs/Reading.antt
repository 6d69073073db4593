-- Reading a packet (RFC 791, section 3.1; RFC 768; RFC 9293, section 3.1): the first cause that fits, or what the headers say.
--
--   IPv4 header, 20 bytes and options   0 version and IHL 1, 1 type of service 1, 2 total length 2, 4 identification 2, 6 flags and fragment offset 2, 8 time to live 1, 9 protocol 1, 10 header checksum 2, 12 source address 4, 16 destination address 4
--   TCP header, 20 bytes and options    0 source port 2, 2 destination port 2, 4 sequence number 4, 8 acknowledgement number 4, 12 data offset and flags 2, 14 window 2, 16 checksum 2, 18 urgent pointer 2
--   UDP header, 8 bytes                 0 source port 2, 2 destination port 2, 4 length 2, 6 checksum 2
use Rattle.std.specs.Prelude.{ℕ, ◌+◌, ◌-◌, ◌*◌, ◌/◌, ◌%◌, Bool, not, ◌&&◌, ◌||◌, ◌==◌, List, length, take, drop, slice_index, if◌then◌else◌, nat_lt, Result, Ok, Err}
use Rattle.lvs_types.specs.declared.head.Head.{Head}
use Rattle.lvs_types.specs.declared.head.Malformed.{Malformed}
use Rattle.lvs_types.specs.declared.head.Malformed.TheVariants.{Short, Version, HeaderLength, TotalLength, HeaderSum, L4Short}
use Rattle.lvs_sum.specs.Sums.{is_valid_header}
use Rattle.lvs_model.specs.Fields.{word_at, addr_at}

-- the version, the first four bits (RFC 791, section 3.1)
abbrev pub version_of : List ℕ → ℕ
version_of bytes = slice_index bytes 0 / 16

-- the length of the IP header in bytes, its options included: four times IHL (RFC 791, section 3.1)
abbrev pub header_len_of : List ℕ → ℕ
header_len_of bytes = 4 * (slice_index bytes 0 % 16)

-- the length of the packet in bytes, its header included (RFC 791, section 3.1)
abbrev pub total_of : List ℕ → ℕ
total_of bytes = word_at bytes 2

-- the number of the protocol above IP (RFC 791, section 3.1)
abbrev pub code_of : List ℕ → ℕ
code_of bytes = slice_index bytes 9

-- the don't-fragment bit (RFC 791, section 3.1)
abbrev pub dont_fragment : List ℕ → Bool
dont_fragment bytes = word_at bytes 6 / 16384 % 2 == 1

-- the more-fragments bit (RFC 791, section 3.1)
abbrev pub more_fragments : List ℕ → Bool
more_fragments bytes = word_at bytes 6 / 8192 % 2 == 1

-- the fragment's offset in units of eight bytes (RFC 791, section 3.1)
abbrev pub fragment_offset : List ℕ → ℕ
fragment_offset bytes = word_at bytes 6 % 8192

-- part of a longer packet: more fragments follow, or the offset isn't 0 (RFC 791, section 3.2)
abbrev pub is_fragment : List ℕ → Bool
is_fragment bytes = more_fragments bytes || not (fragment_offset bytes == 0)

-- an unfragmented packet of protocol 6, whose TCP header is read
abbrev pub is_tcp : List ℕ → Bool
is_tcp bytes = not (is_fragment bytes) && (code_of bytes == 6)

-- an unfragmented packet of protocol 17, whose UDP header is read
abbrev pub is_udp : List ℕ → Bool
is_udp bytes = not (is_fragment bytes) && (code_of bytes == 17)

-- the bytes after the IP header, in number
abbrev pub payload_len : List ℕ → ℕ
payload_len bytes = total_of bytes - header_len_of bytes

-- the length of the TCP header in bytes: four times the data offset (RFC 9293, section 3.1)
abbrev pub data_offset : List ℕ → ℕ
data_offset bytes = 4 * (slice_index bytes (header_len_of bytes + 12) / 16)

-- a control bit of the TCP header, by its value: FIN 1, SYN 2, RST 4, ACK 16 (RFC 9293, section 3.1)
abbrev pub control_bit : ℕ → List ℕ → Bool
control_bit value bytes = is_tcp bytes && (slice_index bytes (header_len_of bytes + 13) / value % 2 == 1)

-- a port, which stands at this place after the IP header (RFC 768; RFC 9293, section 3.1); 0 where none is read
abbrev pub port_at : ℕ → List ℕ → ℕ
port_at place bytes = if is_tcp bytes || is_udp bytes then word_at bytes (header_len_of bytes + place) else 0

-- the TCP header doesn't fit: fewer than 20 bytes, or a data offset below five words or past the end
abbrev pub is_tcp_short : List ℕ → Bool
is_tcp_short bytes = nat_lt (payload_len bytes) 20 || nat_lt (data_offset bytes) 20 || nat_lt (payload_len bytes) (data_offset bytes)

-- the UDP header doesn't fit: fewer than 8 bytes
abbrev pub is_udp_short : List ℕ → Bool
is_udp_short bytes = nat_lt (payload_len bytes) 8

-- what the headers say
abbrev pub head_of : List ℕ → Head
head_of bytes = record {
  header_len = header_len_of bytes;
  total = total_of bytes;
  code = code_of bytes;
  tos = slice_index bytes 1;
  id = word_at bytes 4;
  dont_fragment = dont_fragment bytes;
  fragment = is_fragment bytes;
  ttl = slice_index bytes 8;
  src = addr_at bytes 12;
  dst = addr_at bytes 16;
  sport = port_at 0 bytes;
  dport = port_at 2 bytes;
  syn = control_bit 2 bytes;
  ack = control_bit 16 bytes;
  fin = control_bit 1 bytes;
  rst = control_bit 4 bytes;
}

-- the reading of a packet: the causes in the order in which they are looked for (this project's profile)
abbrev pub read : List ℕ → Result Head Malformed
read bytes =
    if nat_lt (length bytes) 20 then Err Short
    else (if not (version_of bytes == 4) then Err Version
    else (if nat_lt (header_len_of bytes) 20 || nat_lt (length bytes) (header_len_of bytes) then Err HeaderLength
    else (if nat_lt (total_of bytes) (header_len_of bytes) || nat_lt (length bytes) (total_of bytes) then Err TotalLength
    else (if not (is_valid_header (take (header_len_of bytes) bytes)) then Err HeaderSum
    else (if (is_tcp bytes && is_tcp_short bytes) || (is_udp bytes && is_udp_short bytes) then Err L4Short
    else Ok (head_of bytes))))))

-- the packet itself: the bytes up to the total length
abbrev pub whole_of : List ℕ → List ℕ
whole_of bytes = take (total_of bytes) bytes

-- the bytes after the IP header, up to the total length
abbrev pub payload_of : List ℕ → List ℕ
payload_of bytes = drop (header_len_of bytes) (whole_of bytes)
