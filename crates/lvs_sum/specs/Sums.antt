-- Ones' complement sums (RFC 1071, RFC 1624).
use Rattle.std.specs.Prelude.{ℕ, ◌+◌, ◌-◌, ◌*◌, ◌/◌, ◌%◌, Bool, ◌==◌, List, [], ◌∷◌, if◌then◌else◌}

-- the plain sum of the 16-bit words of a list, an odd last byte being followed by a zero byte
abbrev pub word_sum : List ℕ → ℕ
word_sum [] = 0
word_sum (high ∷ []) = 256 * high
word_sum (high ∷ low ∷ rest) = 256 * high + low + word_sum rest

-- a plain sum with the carries added until 16 bits are left: 0 for 0, and else the remainder by 65535 from 1 to 65535
abbrev pub folded : ℕ → ℕ
folded n = if n == 0 then 0 else (n - 1) % 65535 + 1

-- the ones' complement sum of a list of bytes
abbrev pub fold : List ℕ → ℕ
fold bytes = folded (word_sum bytes)

abbrev pub complement : ℕ → ℕ
complement n = 65535 - n

-- a checksum after a word that it covers has changed (RFC 1624, equation 3)
abbrev pub update16 : ℕ → ℕ → ℕ → ℕ
update16 sum old new = complement (folded (complement sum + complement old + new))

-- the same for two words, the high one first
abbrev pub update32 : ℕ → ℕ → ℕ → ℕ
update32 sum old new = update16 (update16 sum (old / 65536) (new / 65536)) (old % 65536) (new % 65536)

-- an IPv4 header whose checksum is right (RFC 791, section 3.1)
abbrev pub is_valid_header : List ℕ → Bool
is_valid_header header = fold header == 65535

-- a TCP or UDP part, with its pseudo header of source, destination, protocol and length, whose checksum is right (RFC 768; RFC 9293, section 3.1)
abbrev pub is_valid_part : ℕ → ℕ → ℕ → ℕ → List ℕ → Bool
is_valid_part source destination code size part =
    folded (source / 65536 + source % 65536 + destination / 65536 + destination % 65536 + code + size + word_sum part) == 65535
