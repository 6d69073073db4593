-- What the reading of a packet tells of its lengths.
use Rattle.std.proofs.Common.{◌≡◌, ℕ, ◌+◌, ◌-◌, ◌%◌, ◌<◌, ◌≤◌, Bool, true, false, not, ◌&&◌, ◌||◌, if◌then◌else◌, ◌==◌, nat_lt, List, length, take, Result, Ok, Err, refl, sym, subst, MatchBool, arith}
use Rattle.std.proofs.lemmas.Bool.Decides.{nat_tests}
use Rattle.lvs_types.specs.declared.head.Head.{Head}
use Rattle.lvs_types.specs.declared.head.Malformed.{Malformed}
use Rattle.lvs_types.specs.declared.head.Malformed.TheVariants.{Short, Version, HeaderLength, TotalLength, HeaderSum, L4Short}
use Rattle.lvs_sum.specs.Sums.{is_valid_header}
use Rattle.lvs_model.specs.Fields.{word_at, number_at}
use Rattle.lvs_model.specs.Reading.{read, data_offset, payload_len, head_of, version_of, header_len_of, total_of, code_of, is_fragment, is_tcp, is_udp, is_tcp_short, is_udp_short}
use Rattle.lvs_model.specs.Rewriting.{has_ports, checksum_place}

-- the tests in their order, and what is answered
abbrev pub chain : Bool → Bool → Bool → Bool → Bool → Bool → Head → Result Head Malformed
chain a b c d e f h = if a then Err Short else (if b then Err Version else (if c then Err HeaderLength else (if d then Err TotalLength else (if e then Err HeaderSum else (if f then Err L4Short else Ok h)))))

-- no test of the chain failed
passed : (a b c d e f : Bool) (h head : Head) → chain a b c d e f h ≡ Ok head
    → (a ≡ false) × (b ≡ false) × (c ≡ false) × (d ≡ false) × (e ≡ false) × (f ≡ false) × (h ≡ head)
passed true b c d e f h head is = absurd cc
passed false true c d e f h head is = absurd cc
passed false false true d e f h head is = absurd cc
passed false false false true e f h head is = absurd cc
passed false false false false true f h head is = absurd cc
passed false false false false false true h head is = absurd cc
passed false false false false false false h head is = (refl, refl, refl, refl, refl, refl, cc)

at_least : (n m : ℕ) → nat_lt n m ≡ false → m ≤ n
at_least n m is = grind (arith, nat_tests)

neither : (a b : Bool) → a || b ≡ false → (a ≡ false) × (b ≡ false)
neither true b is = absurd cc
neither false b is = (refl, is)

not_false : (a : Bool) → not a ≡ false → a ≡ true
not_false true is = refl
not_false false is = absurd cc

is_four : (n : ℕ) → not (n == 4) ≡ false → 4 ≤ n
is_four n is = grind (arith, nat_tests)

-- what the reading tells: the bytes are those of a header, with a packet of its length
pub told : (bytes : List ℕ) (head : Head) → read bytes ≡ Ok head
    → (20 ≤ length bytes) × (20 ≤ header_len_of bytes) × (header_len_of bytes ≤ total_of bytes) × (is_valid_header (take (header_len_of bytes) bytes) ≡ true)
    × (((is_tcp bytes && is_tcp_short bytes) || (is_udp bytes && is_udp_short bytes)) ≡ false) × (head_of bytes ≡ head) × (4 ≤ version_of bytes)
told bytes head is =
    let p = passed (nat_lt (length bytes) 20) (not (version_of bytes == 4)) (nat_lt (header_len_of bytes) 20 || nat_lt (length bytes) (header_len_of bytes)) (nat_lt (total_of bytes) (header_len_of bytes) || nat_lt (length bytes) (total_of bytes))
    (not (is_valid_header (take (header_len_of bytes) bytes))) ((is_tcp bytes && is_tcp_short bytes) || (is_udp bytes && is_udp_short bytes)) (head_of bytes) head is in
    let lengths = neither (nat_lt (header_len_of bytes) 20) (nat_lt (length bytes) (header_len_of bytes)) p.2 in
    let totals = neither (nat_lt (total_of bytes) (header_len_of bytes)) (nat_lt (length bytes) (total_of bytes)) p.3 in
    (at_least (length bytes) 20 p.0, at_least (header_len_of bytes) 20 lengths.0, at_least (total_of bytes) (header_len_of bytes) totals.0, not_false (is_valid_header (take (header_len_of bytes) bytes)) p.4, p.5, p.6, is_four (version_of bytes) p.1)

-- a TCP or a UDP part, whose test for being short failed
one_long : (f t u short_tcp short_udp : Bool) → (not f && (t || u)) ≡ true → (((not f && t) && short_tcp) || ((not f && u) && short_udp)) ≡ false → MatchBool t (short_tcp ≡ false) (short_udp ≡ false)
one_long true t u a b some is = absurd cc
one_long false true u a b some is = (neither a (u && b) is).0
one_long false false true a b some is = is
one_long false false false a b some is = absurd cc

place_below : (t a b : Bool) (n total : ℕ) → (a ≡ false → n + 20 ≤ total) → (b ≡ false → n + 8 ≤ total) → MatchBool t (a ≡ false) (b ≡ false) → (n + (if t then 16 else 6) + 2 ≤ total) × (n + 8 ≤ total)
place_below true a b n total tcp udp is = let h : n + 20 ≤ total = tcp is in (omega arith, omega arith)
place_below false a b n total tcp udp is = let h : n + 8 ≤ total = udp is in (omega arith, omega arith)

left_over : (total n k : ℕ) → k ≤ total - n → n ≤ total → n + k ≤ total
left_over total n k h le = omega arith

room_here : (bytes : List ℕ) → (20 ≤ header_len_of bytes) → (header_len_of bytes ≤ total_of bytes) → (((is_tcp bytes && is_tcp_short bytes) || (is_udp bytes && is_udp_short bytes)) ≡ false)
    → total_of bytes ≡ length bytes → has_ports (head_of bytes) ≡ true → (20 ≤ header_len_of bytes) × (checksum_place (head_of bytes) + 2 ≤ length bytes) × (header_len_of bytes + 8 ≤ length bytes)
room_here bytes long within is whole ports =
    let one = one_long (is_fragment bytes) (code_of bytes == 6) (code_of bytes == 17) (is_tcp_short bytes) (is_udp_short bytes) ports is in
    let below = place_below (code_of bytes == 6) (is_tcp_short bytes) (is_udp_short bytes) (header_len_of bytes) (total_of bytes)
    (λ e. left_over (total_of bytes) (header_len_of bytes) 20 (at_least (payload_len bytes) 20 (neither (nat_lt (payload_len bytes) 20) (nat_lt (data_offset bytes) 20) (neither (nat_lt (payload_len bytes) 20 || nat_lt (data_offset bytes) 20) (nat_lt (payload_len bytes) (data_offset bytes)) e).0).0) within)
    (λ e. left_over (total_of bytes) (header_len_of bytes) 8 (at_least (payload_len bytes) 8 e) within) one in
    (long, omega (arith, below.0), omega (arith, below.1))

pub room : (bytes : List ℕ) (head : Head) → read bytes ≡ Ok head → head.total ≡ length bytes → has_ports head ≡ true → (20 ≤ head.header_len) × (checksum_place head + 2 ≤ length bytes) × (head.header_len + 8 ≤ length bytes)
room bytes head is =
    let t = told bytes head is in
    subst (λ (h : Head). h.total ≡ length bytes → has_ports h ≡ true → (20 ≤ h.header_len) × (checksum_place h + 2 ≤ length bytes) × (h.header_len + 8 ≤ length bytes)) t.5 (room_here bytes t.1 t.2 t.4)

-- what a packet of the reading holds, at the places of which the reading tells
pub record Seen (bytes : List ℕ) (head : Head) : Type 0 where
  pub len : header_len_of bytes ≡ head.header_len
  pub total : total_of bytes ≡ length bytes
  pub code : code_of bytes ≡ head.code
  pub source : number_at bytes 12 ≡ head.src.number
  pub destination : number_at bytes 16 ≡ head.dst.number
  pub source_port : word_at bytes (head.header_len + 0) ≡ head.sport
  pub destination_port : word_at bytes (head.header_len + 2) ≡ head.dport
  pub begins : 0 < word_at bytes 0
  pub some_code : 0 < head.code
  pub even : head.header_len % 2 ≡ 0
  pub valid : is_valid_header (take head.header_len bytes) ≡ true

has_part : (f t u : Bool) → (not f && (t || u)) ≡ true → ((not f && t) || (not f && u)) ≡ true
has_part true t u some = absurd cc
has_part false t u some = some

if_true : (t : Bool) (n : ℕ) → t ≡ true → (if t then n else 0) ≡ n
if_true true n is = refl
if_true false n is = absurd cc

known_code : (f : Bool) (code : ℕ) → (not f && (code == 6 || code == 17)) ≡ true → 0 < code
known_code true code some = absurd cc
known_code false code some = grind (arith, nat_tests)

seen_here : (bytes : List ℕ) → (is_valid_header (take (header_len_of bytes) bytes) ≡ true) → 4 ≤ version_of bytes → total_of bytes ≡ length bytes → has_ports (head_of bytes) ≡ true → Seen bytes (head_of bytes)
seen_here bytes valid version whole ports =
    let part : (is_tcp bytes || is_udp bytes) ≡ true = has_part (is_fragment bytes) (code_of bytes == 6) (code_of bytes == 17) ports in
    record {
      len = refl;
      total = whole;
      code = refl;
      source = refl;
      destination = refl;
      source_port = sym (if_true (is_tcp bytes || is_udp bytes) (word_at bytes (header_len_of bytes + 0)) part);
      destination_port = sym (if_true (is_tcp bytes || is_udp bytes) (word_at bytes (header_len_of bytes + 2)) part);
      begins = omega arith;
      some_code = known_code (is_fragment bytes) (code_of bytes) ports;
      even = omega arith;
      valid = valid;
    }

pub seen : (bytes : List ℕ) (head : Head) → read bytes ≡ Ok head → head.total ≡ length bytes → has_ports head ≡ true → Seen bytes head
seen bytes head is =
    let t = told bytes head is in
    subst (λ (h : Head). h.total ≡ length bytes → has_ports h ≡ true → Seen bytes h) t.5 (seen_here bytes t.3 t.6)
