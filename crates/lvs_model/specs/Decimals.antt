-- Numbers, addresses and ports as they are written in words (this project's profile of ipvsadm(8)).
use Rattle.std.specs.Prelude.{ℕ, ◌+◌, ◌-◌, ◌*◌, ◌^◌, Bool, false, ◌&&◌, ◌==◌, List, [], ◌∷◌, length, Option, Some, None, find, if◌then◌else◌, nat_le, nat_lt}
use Rattle.std.specs.List.{list_all, position_or_len, before_first, after_first}
use Rattle.std.specs.Char.{is_ascii_digit}
use Rattle.lvs_types.specs.declared.addr.Addr.{Addr}
use Rattle.lvs_model.specs.declared.admin.GivenEndpoint.{GivenEndpoint}

infixl 10 ◌>>=◌
abbrev ◌>>=◌ : {A B : Type 0} → Option A → (A → Option B) → Option B
(Some x) >>= f = f x
None >>= f = None

-- the number that decimal digits spell, where this one stands before them
abbrev pub value_after : ℕ → List ℕ → ℕ
value_after n [] = n
value_after n (digit ∷ digits) = value_after (10 * n + (digit - 48)) digits

-- a word of decimal digits alone, at least one
abbrev pub is_number : List ℕ → Bool
is_number [] = false
is_number (digit ∷ digits) = is_ascii_digit digit && list_all is_ascii_digit digits

-- the number that a word of 1 to so many decimal digits spells, up to a limit; no sign, and leading zeros are allowed
abbrev pub number_of : ℕ → ℕ → List ℕ → Option ℕ
number_of places limit word =
    if is_number word && nat_le (length word) places && nat_le (value_after 0 word) limit then Some (value_after 0 word) else None

-- a number of 1 to 10 digits, from a least one up to a limit
abbrev pub number_between : ℕ → ℕ → List ℕ → Option ℕ
number_between least limit word = do
  number ← number_of 10 limit word
  if nat_le least number then Some number else None

-- the text before the first such byte, and the text behind it
abbrev pub cut_at : ℕ → List ℕ → Option (List ℕ × List ℕ)
cut_at byte text =
    if nat_lt (position_or_len (λ b. b == byte) text) (length text) then Some (before_first (λ b. b == byte) text, after_first (λ b. b == byte) text)
    else None

-- ADDR: four numbers of 1 to 3 digits, 0 to 255, joined by dots (46)
abbrev pub addr_of : List ℕ → Option Addr
addr_of word = do
  first ← cut_at 46 word
  a ← number_of 3 255 first.0
  second ← cut_at 46 first.1
  b ← number_of 3 255 second.0
  third ← cut_at 46 second.1
  c ← number_of 3 255 third.0
  d ← number_of 3 255 third.1
  Some (record { number = 16777216 * a + 65536 * b + 256 * c + d })

-- PORT: 1 to 5 digits, 0 to 65535
abbrev pub port_of : List ℕ → Option ℕ
port_of = number_of 5 65535

-- by whether there is a colon (58)
abbrev pub endpoint_cut : List ℕ → Option (List ℕ × List ℕ) → Option GivenEndpoint
endpoint_cut word None = do
  addr ← addr_of word
  Some (record { addr = addr; port = None })
endpoint_cut word (Some parts) = do
  addr ← addr_of parts.0
  port ← port_of parts.1
  Some (record { addr = addr; port = Some port })

-- ADDR or ADDR:PORT
abbrev pub endpoint_of : List ℕ → Option GivenEndpoint
endpoint_of word = endpoint_cut word (cut_at 58 word)

-- the numbers from 0 to 32
abbrev pub mask_lengths : List ℕ
mask_lengths = 0 ∷ 1 ∷ 2 ∷ 3 ∷ 4 ∷ 5 ∷ 6 ∷ 7 ∷ 8 ∷ 9 ∷ 10 ∷ 11 ∷ 12 ∷ 13 ∷ 14 ∷ 15 ∷ 16 ∷ 17 ∷ 18 ∷ 19 ∷ 20 ∷ 21 ∷ 22 ∷ 23 ∷ 24 ∷ 25 ∷ 26 ∷ 27 ∷ 28 ∷ 29 ∷ 30 ∷ 31 ∷ 32 ∷ []

-- an address whose bits are so many ones and then zeros
abbrev pub is_mask : ℕ → ℕ → Bool
is_mask number bits = number + 2 ^ (32 - bits) == 2 ^ 32

-- how many ones a mask has that is ones and then zeros, 0 to 32
abbrev pub mask_bits_of : Addr → Option ℕ
mask_bits_of addr = find (is_mask addr.number) mask_lengths

-- a mask as a word
abbrev pub mask_of : List ℕ → Option ℕ
mask_of word = do
  addr ← addr_of word
  mask_bits_of addr
