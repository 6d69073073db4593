-- The answer to an ICMP error about a packet of a masqueraded connection (RFC 792; the order of the cases is this project's profile).
--
-- The message of an error, behind the IP header (RFC 792, "Destination Unreachable Message"):
--
--      0  type | code | checksum, of two bytes
--      4  four bytes of the type's own
--      8  the embedded packet: the IP header and at least the first 8 bytes of the packet that the error is about
use Rattle.std.specs.Prelude.{ℕ, ◌+◌, Bool, true, false, not, ◌&&◌, ◌||◌, ◌==◌, List, [], ◌∷◌, ◌++◌, length, take, drop, slice_index, if◌then◌else◌, nat_le, Option, Some, None, Result, Ok, Err, codes}
use Rattle.std.specs.List.{list_any}
use Rattle.hex.specs.Hex.{encode_lower}
use Rattle.lvs_types.specs.Protocols.{proto_of_code}
use Rattle.lvs_types.specs.declared.addr.Addr.{Addr}
use Rattle.lvs_types.specs.declared.addr.DestId.{DestId}
use Rattle.lvs_types.specs.declared.head.Head.{Head}
use Rattle.lvs_types.specs.declared.head.Malformed.{Malformed}
use Rattle.lvs_types.specs.declared.service.Proto.{Proto}
use Rattle.lvs_types.specs.declared.service.Method.{Method}
use Rattle.lvs_types.specs.declared.service.Method.TheVariants.{Masq, Tunnel, Direct}
use Rattle.lvs_types.specs.declared.dest.DestRow.{DestRow}
use Rattle.lvs_types.specs.declared.entry.Key.{Key}
use Rattle.lvs_types.specs.declared.entry.Entry.{Entry}
use Rattle.lvs_types.specs.declared.snapshot.Snapshot.{Snapshot}
use Rattle.lvs_types.specs.declared.icmp.Side.{Side}
use Rattle.lvs_types.specs.declared.icmp.Side.TheVariants.{Inward, Outward}
use Rattle.lvs_types.specs.declared.icmp.IcmpAnswer.{IcmpAnswer}
use Rattle.lvs_types.specs.declared.icmp.IcmpAnswer.TheVariants as answer
use Rattle.lvs_sum.specs.Sums.{fold, complement}
use Rattle.lvs_model.specs.Fields.{word_at, addr_at}
use Rattle.lvs_model.specs.Reading.{read, version_of, header_len_of, code_of, fragment_offset}
use Rattle.lvs_model.specs.Rewriting.{with_word, with_number, with_header_sum}
use Rattle.lvs_model.specs.Same.{dest_eq}
use Rattle.lvs_model.specs.Lookups.{entry_at, reply_entry}
use Rattle.lvs_model.specs.Report.{addr_text, malformed_text}

-- THE MESSAGE

-- the number of the protocol (RFC 792)
abbrev pub icmp_code : ℕ
icmp_code = 1

-- where the checksum stands
abbrev pub sum_place : ℕ
sum_place = 2

-- where the embedded packet begins
abbrev pub embedded_place : ℕ
embedded_place = 8

-- an unfragmented packet of protocol 1, with at least 8 bytes behind its IP header
abbrev pub is_message : Head → List ℕ → Bool
is_message head message = not head.fragment && (head.code == icmp_code) && nat_le embedded_place (length message)

-- the checksum is right (RFC 792)
abbrev pub has_valid_sum : List ℕ → Bool
has_valid_sum message = fold message == 65535

-- Destination Unreachable, Source Quench or Time Exceeded (RFC 792)
abbrev pub is_error_type : ℕ → Bool
is_error_type kind = (kind == 3) || (kind == 4) || (kind == 11)

abbrev pub type_of : List ℕ → ℕ
type_of message = slice_index message 0

abbrev pub embedded_of : List ℕ → List ℕ
embedded_of message = drop embedded_place message

-- THE EMBEDDED PACKET

-- an IP header of version 4 with 8 bytes behind it, of a packet's first fragment
abbrev pub has_first_bytes : List ℕ → Bool
has_first_bytes packet =
    nat_le 20 (length packet) && (version_of packet == 4) && nat_le 20 (header_len_of packet) && nat_le (header_len_of packet + 8) (length packet) && (fragment_offset packet == 0)

-- its protocol, where its ports can be read
abbrev pub embedded_proto : List ℕ → Option Proto
embedded_proto packet = if has_first_bytes packet then proto_of_code (code_of packet) else None

abbrev pub source_of : List ℕ → Addr
source_of packet = addr_at packet 12

abbrev pub destination_of : List ℕ → Addr
destination_of packet = addr_at packet 16

abbrev pub source_port_of : List ℕ → ℕ
source_port_of packet = word_at packet (header_len_of packet)

abbrev pub destination_port_of : List ℕ → ℕ
destination_port_of packet = word_at packet (header_len_of packet + 2)

-- the key of the connection that a packet to the client belongs to: its source is the virtual side
abbrev pub key_of_answer : Proto → List ℕ → Key
key_of_answer proto packet = record {
  proto = proto;
  caddr = destination_of packet;
  cport = destination_port_of packet;
  vaddr = source_of packet;
  vport = source_port_of packet;
}

-- REWRITTEN

-- an IP header with another source, and its checksum updated
abbrev pub with_source : Addr → List ℕ → List ℕ
with_source addr packet = with_header_sum (source_of packet) addr (with_number 12 addr.number packet)

-- an IP header with another destination, and its checksum updated
abbrev pub with_destination : Addr → List ℕ → List ℕ
with_destination addr packet = with_header_sum (destination_of packet) addr (with_number 16 addr.number packet)

-- an embedded packet with another source and source port; of its TCP or UDP checksum nothing changes
abbrev pub embedded_from : Addr → ℕ → List ℕ → List ℕ
embedded_from addr port packet = with_source addr (with_word (header_len_of packet) port packet)

-- an embedded packet with another destination and destination port
abbrev pub embedded_to : Addr → ℕ → List ℕ → List ℕ
embedded_to addr port packet = with_destination addr (with_word (header_len_of packet + 2) port packet)

-- a message with the checksum that makes it right: the complement of the sum with the field as 0 (RFC 792)
abbrev pub with_sum : List ℕ → List ℕ
with_sum message = with_word sum_place (complement (fold (with_word sum_place 0 message))) message

-- a message about another embedded packet
abbrev pub message_about : List ℕ → List ℕ → List ℕ
message_about message embedded = with_sum (take embedded_place message ++ embedded)

-- an error, by its IP header and its message, as it goes on to the server: both its destination and the source of the embedded packet become the server's
abbrev pub bytes_to_server : Entry → List ℕ → List ℕ → List ℕ
bytes_to_server e header message = with_destination e.daddr header ++ message_about message (embedded_from e.daddr e.dport (embedded_of message))

-- an error as it goes on to the client: both its source and the destination of the embedded packet become the service's
abbrev pub bytes_to_client : Entry → List ℕ → List ℕ → List ℕ
bytes_to_client e header message = with_source e.key.vaddr header ++ message_about message (embedded_to e.key.vaddr e.key.vport (embedded_of message))

-- THE ANSWER

-- the server named is one of these, and was removed
abbrev pub names_removed : Option DestId → List DestRow → Bool
names_removed named rows = list_any (λ (row : DestRow). dest_eq named row.dest.id && not row.dest.live) rows

-- by whether the server was removed
abbrev pub to_server : Entry → List ℕ → List ℕ → Bool → IcmpAnswer
to_server e header message true = answer.Gone
to_server e header message false = answer.ToServer e.daddr (bytes_to_server e header message)

-- by the connection's method: others than masquerade leave packets as they are
abbrev pub inward_by : List DestRow → Entry → List ℕ → List ℕ → Method → IcmpAnswer
inward_by rows e header message Masq = to_server e header message (names_removed e.server rows)
inward_by rows e header message Tunnel = answer.Pass
inward_by rows e header message Direct = answer.Pass

-- an error from the client's side, by the connection that its embedded packet belongs to
abbrev pub inward : List DestRow → List ℕ → List ℕ → Option Entry → IcmpAnswer
inward rows header message None = answer.Pass
inward rows header message (Some e) = inward_by rows e header message e.method

-- an error from a server's side, by the connection that its embedded packet was forwarded for
abbrev pub outward : List ℕ → List ℕ → Option Entry → IcmpAnswer
outward header message None = answer.Pass
outward header message (Some e) = answer.ToClient (bytes_to_client e header message)

-- the embedded packet went to the client, or to a server: its two sides name the connection
abbrev pub by_side : Snapshot → List ℕ → List ℕ → Proto → Side → IcmpAnswer
by_side tables header message proto Inward =
    inward tables.dests header message (entry_at (key_of_answer proto (embedded_of message)) tables.entries)
by_side tables header message proto Outward =
    let packet = embedded_of message in
    outward header message (reply_entry proto (destination_of packet) (destination_port_of packet) (source_of packet) (source_port_of packet) tables.entries)

-- by the protocol of the embedded packet, where it is TCP or UDP
abbrev pub error_answer : Snapshot → Side → List ℕ → List ℕ → Option Proto → IcmpAnswer
error_answer tables side header message None = answer.Pass
error_answer tables side header message (Some proto) = by_side tables header message proto side

-- a packet that was read, by its IP header and what stands behind it
abbrev pub message_answer : Snapshot → Side → Head → List ℕ → List ℕ → IcmpAnswer
message_answer tables side head header message =
    if not (is_message head message) then answer.Pass
    else (if not (has_valid_sum message) then answer.BadSum
    else (if not (is_error_type (type_of message)) then answer.Pass
    else error_answer tables side header message (embedded_proto (embedded_of message))))

abbrev pub read_answer : Snapshot → Side → List ℕ → Result Head Malformed → IcmpAnswer
read_answer tables side bytes (Err why) = answer.Malformed why
read_answer tables side bytes (Ok head) = message_answer tables side head (take head.header_len bytes) (drop head.header_len (take head.total bytes))

-- what becomes of the bytes of an error that comes from a side; nothing of the tables changes
abbrev pub icmp_answer : Snapshot → Side → List ℕ → IcmpAnswer
icmp_answer tables side bytes = read_answer tables side bytes (read bytes)

-- the line of an answer in a report (this project's profile)
abbrev pub icmp_text : IcmpAnswer → List ℕ
icmp_text (answer.ToServer to bytes) = codes "fwd masq " ++ addr_text to ++ 32 ∷ [] ++ encode_lower bytes ++ 10 ∷ []
icmp_text (answer.ToClient bytes) = codes "out " ++ encode_lower bytes ++ 10 ∷ []
icmp_text answer.Pass = codes "pass" ++ 10 ∷ []
icmp_text answer.Gone = codes "drop gone" ++ 10 ∷ []
icmp_text answer.BadSum = codes "drop icmpsum" ++ 10 ∷ []
icmp_text (answer.Malformed cause) = codes "drop malformed " ++ malformed_text cause ++ 10 ∷ []
