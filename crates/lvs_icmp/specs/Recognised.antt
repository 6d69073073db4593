-- What is promised of an error that goes on: its checksums are right, and its receiver finds in it the packet that it had sent itself.
use Rattle.std.specs.Prelude.{◌≡◌, ℕ, ◌+◌, ◌<◌, true, List, length, take, slice_index, Option, Some, None, Ok}
use Rattle.lvs_types.specs.declared.head.Head.{Head}
use Rattle.lvs_types.specs.declared.service.Proto.TheVariants.{Tcp}
use Rattle.lvs_types.specs.declared.entry.Entry.{Entry}
use Rattle.lvs_types.specs.declared.snapshot.Snapshot.{Snapshot}
use Rattle.lvs_types.specs.declared.icmp.Side.{Side}
use Rattle.lvs_types.specs.declared.icmp.Side.TheVariants.{Inward, Outward}
use Rattle.lvs_types.specs.declared.icmp.IcmpAnswer.{IcmpAnswer}
use Rattle.lvs_types.specs.declared.icmp.IcmpAnswer.TheVariants as answer
use Rattle.lvs_sum.specs.Sums.{fold}
use Rattle.lvs_model.specs.Reading.{read, payload_of}
use Rattle.lvs_model.specs.Rewriting.{has_ports, with_word, masq_in_bytes, masq_out_bytes}
use Rattle.lvs_model.specs.Lookups.{entry_at, reply_entry}
use Rattle.lvs_model.specs.IcmpErrors.{embedded_of, key_of_answer, source_of, source_port_of, destination_of, destination_port_of}
use Rattle.lvs_rewrite.specs.Validity.{has_valid_header}

-- the bytes of an error that goes on
abbrev pub rewritten_of : IcmpAnswer → Option (List ℕ)
rewritten_of (answer.ToServer to bytes) = Some bytes
rewritten_of (answer.ToClient bytes) = Some bytes
rewritten_of answer.Pass = None
rewritten_of answer.Gone = None
rewritten_of answer.BadSum = None
rewritten_of (answer.Malformed cause) = None

-- the checksums of an error are right: that of its IP header, and that of its message (RFC 791, section 3.1; RFC 792)
pub record IsRight (bytes : List ℕ) : Type 0 where
  pub header : has_valid_header bytes ≡ true
  pub message : fold (payload_of bytes) ≡ 65535

-- the packet that an error is about
abbrev pub embedded_in : List ℕ → List ℕ
embedded_in bytes = embedded_of (payload_of bytes)

-- the connection that a packet of TCP belongs to, which went to the client or to a server
abbrev pub connection_of : Snapshot → Side → List ℕ → Option Entry
connection_of tables Inward packet = entry_at (key_of_answer Tcp packet) tables.entries
connection_of tables Outward packet =
    reply_entry Tcp (destination_of packet) (destination_port_of packet) (source_of packet) (source_port_of packet) tables.entries

-- who sent a packet of a connection: the server whose answers go to the client's side, or the client
abbrev pub IsFrom : Side → Entry → Head → Type 0
IsFrom Inward e head = (head.src ≡ e.daddr) × (head.sport ≡ e.dport)
IsFrom Outward e head = (head.dst ≡ e.key.vaddr) × (head.dport ≡ e.key.vport)

-- a whole packet of TCP of a connection, as its sender sent it
pub record IsSent (side : Side) (e : Entry) (head : Head) (packet : List ℕ) : Type 0 where
  pub are_bytes : (i : ℕ) → slice_index packet i < 256
  pub reading : read packet ≡ Ok head
  pub whole : head.total ≡ length packet
  pub ports : has_ports head ≡ true
  pub tcp : head.code ≡ 6
  pub from : IsFrom side e head

-- what masquerade makes of the packet
abbrev pub masqueraded : Side → Entry → Head → List ℕ → List ℕ
masqueraded Inward e head packet = masq_out_bytes head packet e.key.vaddr e.key.vport
masqueraded Outward e head packet = masq_in_bytes head packet e.daddr e.dport

-- the IP header and the first 8 bytes behind it
abbrev pub first_bytes : Head → List ℕ → List ℕ
first_bytes head packet = take (head.header_len + 8) packet

-- a packet without its header's checksum, which stands at 10
abbrev pub without_sum : List ℕ → List ℕ
without_sum packet = with_word 10 0 packet

-- an error about the first bytes of what masquerade made of a packet is about the first bytes of that packet afterwards, the header's checksum aside
abbrev pub IsRecognised : Snapshot → Side → List ℕ → List ℕ → Type 0
IsRecognised tables side bytes rewritten =
    (e : Entry) (head : Head) (packet : List ℕ)
    → connection_of tables side (embedded_in bytes) ≡ Some e
    → IsSent side e head packet
    → embedded_in bytes ≡ first_bytes head (masqueraded side e head packet)
    → without_sum (embedded_in rewritten) ≡ without_sum (first_bytes head packet)
