-- Rewritten bytes of a forwarded packet: masquerade (RFC 1624) and the tunnel's outer header (RFC 2003).
use Rattle.std.specs.Prelude.{ℕ, ◌+◌, Bool, true, false, not, ◌&&◌, ◌||◌, ◌==◌, nat_lt, List, ◌∷◌, ◌++◌, take, drop, if◌then◌else◌}
use Rattle.lvs_types.specs.declared.addr.Addr.{Addr}
use Rattle.lvs_types.specs.declared.head.Head.{Head}
use Rattle.lvs_types.specs.declared.service.Method.{Method}
use Rattle.lvs_types.specs.declared.service.Method.TheVariants.{Masq, Tunnel, Direct}
use Rattle.lvs_sum.specs.Sums.{complement, fold, update16, update32}
use Rattle.lvs_model.specs.Fields.{word_at, word_bytes, number_bytes, addr_bytes}

-- an unfragmented TCP or UDP packet, which masquerade can rewrite (RFC 9293; RFC 768)
abbrev pub has_ports : Head → Bool
has_ports head = not head.fragment && (head.code == 6 || head.code == 17)

-- the bytes with a number below 2 ^ 16 put at a place, all other bytes staying
abbrev pub with_word : ℕ → ℕ → List ℕ → List ℕ
with_word at n bytes = take at bytes ++ word_bytes n ++ drop (at + 2) bytes

-- the same with a number below 2 ^ 32
abbrev pub with_number : ℕ → ℕ → List ℕ → List ℕ
with_number at n bytes = take at bytes ++ number_bytes n ++ drop (at + 4) bytes

-- the IP header's checksum, at 10, after an address has changed (RFC 791, section 3.1; RFC 1624)
abbrev pub with_header_sum : Addr → Addr → List ℕ → List ℕ
with_header_sum old new bytes = with_word 10 (update32 (word_at bytes 10) old.number new.number) bytes

-- where the checksum of a TCP packet stands, or else of a UDP packet (RFC 9293, section 3.1; RFC 768)
abbrev pub checksum_place : Head → ℕ
checksum_place head = head.header_len + (if head.code == 6 then 16 else 6)

-- an updated UDP checksum: a field of 0 says that there is none and stays, and a sum of 0 is written as all ones (RFC 768)
abbrev pub udp_sum : ℕ → ℕ → ℕ
udp_sum field updated = if field == 0 then 0 else if updated == 0 then 65535 else updated

-- the TCP checksum field, or else the UDP one, after an update
abbrev pub part_sum : Bool → ℕ → ℕ → ℕ
part_sum true field updated = updated
part_sum false field updated = udp_sum field updated

-- a checksum after an address and a port that it covers have changed (RFC 1624)
abbrev pub moved_sum : Addr → Addr → ℕ → ℕ → ℕ → ℕ
moved_sum old new old_port new_port sum = update16 (update32 sum old.number new.number) old_port new_port

-- the TCP or UDP checksum after an address and a port have changed
abbrev pub with_part_sum : Head → Addr → Addr → ℕ → ℕ → List ℕ → List ℕ
with_part_sum head old new old_port new_port bytes =
    with_word (checksum_place head)
    (part_sum (head.code == 6) (word_at bytes (checksum_place head)) (moved_sum old new old_port new_port (word_at bytes (checksum_place head))))
    bytes

-- masquerade of an unfragmented TCP or UDP packet to a server: the destination address, at 16, and the destination port become the server's (ipvsadm(8))
abbrev pub masq_in_bytes : Head → List ℕ → Addr → ℕ → List ℕ
masq_in_bytes head bytes daddr dport =
    with_part_sum head head.dst daddr head.dport dport (with_header_sum head.dst daddr (with_word (head.header_len + 2) dport (with_number 16 daddr.number bytes)))

-- masquerade of a server's unfragmented TCP or UDP packet: the source address, at 12, and the source port become the service's (ipvsadm(8))
abbrev pub masq_out_bytes : Head → List ℕ → Addr → ℕ → List ℕ
masq_out_bytes head bytes vaddr vport =
    with_part_sum head head.src vaddr head.sport vport (with_header_sum head.src vaddr (with_word head.header_len vport (with_number 12 vaddr.number bytes)))

-- the byte of the flags: don't fragment or none, at offset 0 (RFC 791, section 3.1)
abbrev pub flags_byte : Bool → ℕ
flags_byte true = 64
flags_byte false = 0

-- the tunnel's outer header with a given checksum: version 4 and 5 words, protocol 4 (RFC 2003, section 3.1)
abbrev pub outer_with : ℕ → Head → Addr → Addr → List ℕ
outer_with sum head local daddr =
    69 ∷ head.tos ∷ word_bytes (head.total + 20)
    ++ word_bytes head.id
    ++ flags_byte head.dont_fragment ∷ 0 ∷ head.ttl ∷ 4 ∷ word_bytes sum
    ++ addr_bytes local
    ++ addr_bytes daddr

-- the tunnel's outer header: the inner TOS, identification, don't-fragment bit and TTL, 20 bytes more, and the checksum in full
abbrev pub outer_bytes : Head → Addr → Addr → List ℕ
outer_bytes head local daddr = outer_with (complement (fold (outer_with 0 head local daddr))) head local daddr

-- the bytes that are forwarded by a method to a server's address and port, of a packet cut to its total length (ipvsadm(8), packet forwarding methods)
abbrev pub bytes_for : Addr → Head → List ℕ → Method → Addr → ℕ → List ℕ
bytes_for local head bytes Masq daddr dport = masq_in_bytes head bytes daddr dport
bytes_for local head bytes Tunnel daddr dport = outer_bytes head local daddr ++ bytes
bytes_for local head bytes Direct daddr dport = bytes

-- a packet that a tunnel's outer header would make longer than 65,535 bytes
abbrev pub is_too_long : Head → Method → Bool
is_too_long head Masq = false
is_too_long head Tunnel = nat_lt 65515 head.total
is_too_long head Direct = false
