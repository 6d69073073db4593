-- Packets whose checksums are right, told from their bytes alone.
use Rattle.std.specs.Prelude.{ℕ, ◌+◌, Bool, List, take}
use Rattle.lvs_sum.specs.Sums.{is_valid_header, is_valid_part}
use Rattle.lvs_model.specs.Fields.{word_at, number_at}
use Rattle.lvs_model.specs.Reading.{header_len_of, code_of, payload_len, payload_of}

-- the IP header's checksum is right (RFC 791, section 3.1)
abbrev pub has_valid_header : List ℕ → Bool
has_valid_header bytes = is_valid_header (take (header_len_of bytes) bytes)

-- the checksum of the TCP or UDP part is right, with the addresses that stand in the IP header (RFC 9293, section 3.1; RFC 768)
abbrev pub has_valid_part : List ℕ → Bool
has_valid_part bytes = is_valid_part (number_at bytes 12) (number_at bytes 16) (code_of bytes) (payload_len bytes) (payload_of bytes)

-- the checksum field of a UDP packet: 0 says that there is no checksum (RFC 768)
abbrev pub udp_field : List ℕ → ℕ
udp_field bytes = word_at bytes (header_len_of bytes + 6)
