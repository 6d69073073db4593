-- Numbers in bytes, the high byte first (RFC 791, appendix B).
use Rattle.std.specs.Prelude.{ℕ, ◌+◌, ◌*◌, ◌/◌, ◌%◌, List, [], ◌∷◌, ◌++◌, slice_index}
use Rattle.lvs_types.specs.declared.addr.Addr.{Addr}

-- the number of two bytes
abbrev pub word_at : List ℕ → ℕ → ℕ
word_at bytes at = 256 * slice_index bytes at + slice_index bytes (at + 1)

-- the number of four bytes
abbrev pub number_at : List ℕ → ℕ → ℕ
number_at bytes at = 65536 * word_at bytes at + word_at bytes (at + 2)

-- the address of four bytes
abbrev pub addr_at : List ℕ → ℕ → Addr
addr_at bytes at = record { number = number_at bytes at }

-- a number below 2 ^ 16 as two bytes
abbrev pub word_bytes : ℕ → List ℕ
word_bytes n = n / 256 ∷ n % 256 ∷ []

-- a number below 2 ^ 32 as four bytes
abbrev pub number_bytes : ℕ → List ℕ
number_bytes n = word_bytes (n / 65536) ++ word_bytes (n % 65536)

abbrev pub addr_bytes : Addr → List ℕ
addr_bytes a = number_bytes a.number
