-- The bytes of a packet up to its total length are read as the same packet.
use Rattle.std.proofs.Common.{◌≡◌, ℕ, ◌+◌, ◌*◌, ◌/◌, ◌%◌, ◌<◌, ◌≤◌, Bool, true, false, List, length, take, get_or, Result, Ok, Err, refl, ap, arith, ◌∙◌}
use Rattle.std.specs.Prelude.{not, ◌&&◌, ◌||◌, ◌==◌, nat_lt, if◌then◌else◌}
use Rattle.std.proofs.lemmas.Bool.Decides.{nat_tests}
use Rattle.std.proofs.lemmas.List.{get_or-take, length-take-le, take-take}
use Rattle.lvs_types.specs.declared.addr.Addr.{Addr}
use Rattle.lvs_types.specs.declared.head.Head.{Head}
use Rattle.lvs_types.specs.declared.head.Malformed.{Malformed}
use Rattle.lvs_types.specs.declared.head.Malformed.TheVariants.{Short, Version, HeaderLength, TotalLength, HeaderSum, L4Short}
use Rattle.lvs_sum.specs.Sums.{is_valid_header}
use Rattle.lvs_model.specs.Fields.{word_at, addr_at}
use Rattle.lvs_model.specs.Reading.{read, head_of, version_of, header_len_of, total_of, code_of, is_fragment, dont_fragment, is_tcp, is_udp, is_tcp_short, is_udp_short, payload_len, data_offset, port_at, control_bit, whole_of}

-- the tests in their order, and what is answered
abbrev chain : Bool → Bool → Bool → Bool → Bool → Bool → Head → Result Head Malformed
chain a b c d e f h = if a then Err Short else (if b then Err Version else (if c then Err HeaderLength else (if d then Err TotalLength else (if e then Err HeaderSum else (if f then Err L4Short else Ok h)))))

record NoCause (a b c d e f : Bool) (h head : Head) : Type 0 where
  long : a ≡ false
  version : b ≡ false
  header : c ≡ false
  total : d ≡ false
  sum : e ≡ false
  above : f ≡ false
  same : h ≡ head

passed : (a b c d e f : Bool) (h head : Head) → chain a b c d e f h ≡ Ok head → NoCause a b c d e f h head
passed true b c d e f h head is = absurd cc
passed false true c d e f h head is = absurd cc
passed false false true d e f h head is = absurd cc
passed false false false true e f h head is = absurd cc
passed false false false false true f h head is = absurd cc
passed false false false false false true h head is = absurd cc
passed false false false false false false h head is = record { long = refl; version = refl; header = refl; total = refl; sum = refl; above = refl; same = cc }

answered : (a b c d e f : Bool) (h head : Head) → NoCause a b c d e f h head → chain a b c d e f h ≡ Ok head
answered true b c d e f h head none = absurd cc
answered false true c d e f h head none = absurd cc
answered false false true d e f h head none = absurd cc
answered false false false true e f h head none = absurd cc
answered false false false false true f h head none = absurd cc
answered false false false false false true h head none = absurd cc
answered false false false false false false h head none = ap Ok none.same

neither : (a b : Bool) → a || b ≡ false → (a ≡ false) × (b ≡ false)
neither true b is = absurd cc
neither false b is = (refl, is)

at_least : (n m : ℕ) → nat_lt n m ≡ false → m ≤ n
at_least n m is = grind (arith, nat_tests)

not_below : (n m : ℕ) → m ≤ n → nat_lt n m ≡ false
not_below n m h = grind (arith, nat_tests)

both_false : (a b : Bool) → a ≡ false → b ≡ false → a || b ≡ false
both_false a b p q = rw p q

-- a test that is looked at only under another
and_same : (t a b : Bool) → (t ≡ true → a ≡ b) → (t && a) ≡ (t && b)
and_same true a b h = h refl
and_same false a b h = refl

if_same : (t : Bool) (m n : ℕ) → (t ≡ true → m ≡ n) → (if t then m else 0) ≡ (if t then n else 0)
if_same true m n h = h refl
if_same false m n h = refl

-- the bytes below a place stand in the front too
abbrev IsFront : ℕ → List ℕ → List ℕ → Type 0
IsFront t w bytes = (i : ℕ) → i < t → get_or w i 0 ≡ get_or bytes i 0

word_same : (t : ℕ) (w bytes : List ℕ) (i : ℕ) → IsFront t w bytes → i + 2 ≤ t → word_at w i ≡ word_at bytes i
word_same t w bytes i same h = omega (arith, same i (omega arith), same (i + 1) (omega arith))

record FrontSame (w bytes : List ℕ) : Type 0 where
  version : version_of w ≡ version_of bytes
  header : header_len_of w ≡ header_len_of bytes
  total : total_of w ≡ total_of bytes
  flags : word_at w 6 ≡ word_at bytes 6
  code : code_of w ≡ code_of bytes

front_same : (t : ℕ) (w bytes : List ℕ) → 20 ≤ t → IsFront t w bytes → FrontSame w bytes
front_same t w bytes long same = record {
  version = ap (λ (x : ℕ). x / 16) (same 0 (omega arith));
  header = ap (λ (x : ℕ). 4 * (x % 16)) (same 0 (omega arith));
  total = word_same t w bytes 2 same (omega arith);
  flags = word_same t w bytes 6 same (omega arith);
  code = same 9 (omega arith);
}

tcp_same : (w bytes : List ℕ) → FrontSame w bytes → is_tcp w ≡ is_tcp bytes
tcp_same w bytes front = rw front.flags (rw front.code refl)

udp_same : (w bytes : List ℕ) → FrontSame w bytes → is_udp w ≡ is_udp bytes
udp_same w bytes front = rw front.flags (rw front.code refl)

payload_same : (w bytes : List ℕ) → FrontSame w bytes → payload_len w ≡ payload_len bytes
payload_same w bytes front = omega (arith, front.total, front.header)

udp_short_same : (w bytes : List ℕ) → FrontSame w bytes → is_udp_short w ≡ is_udp_short bytes
udp_short_same w bytes front = ap (λ (n : ℕ). nat_lt n 8) (payload_same w bytes front)

-- the byte at a place after the IP header
after_same : (t : ℕ) (w bytes : List ℕ) (place : ℕ) → IsFront t w bytes → FrontSame w bytes → header_len_of bytes + place < t → get_or w (header_len_of w + place) 0 ≡ get_or bytes (header_len_of bytes + place) 0
after_same t w bytes place same front h = ap (λ (n : ℕ). get_or w (n + place) 0) front.header ∙ same (header_len_of bytes + place) h

tcp_short_same : (t : ℕ) (w bytes : List ℕ) → IsFront t w bytes → FrontSame w bytes → header_len_of bytes + 20 ≤ t → is_tcp_short w ≡ is_tcp_short bytes
tcp_short_same t w bytes same front fits =
    let offset : data_offset w ≡ data_offset bytes = ap (λ (x : ℕ). 4 * (x / 16)) (after_same t w bytes 12 same front (omega arith)) in
    let payload : payload_len w ≡ payload_len bytes = payload_same w bytes front in
    ap (λ (n : ℕ). nat_lt n 20 || nat_lt (data_offset w) 20 || nat_lt n (data_offset w)) payload ∙ ap (λ (n : ℕ). nat_lt (payload_len bytes) 20 || nat_lt n 20 || nat_lt (payload_len bytes) n) offset

and_false : (a b : Bool) → (a && b) ≡ false → a ≡ true → b ≡ false
and_false true b is yes_a = is
and_false false b is yes_a = absurd cc

-- a TCP or UDP header that fits
record Fits (t : ℕ) (bytes : List ℕ) : Type 0 where
  tcp : is_tcp bytes ≡ true → header_len_of bytes + 20 ≤ t
  udp : is_udp bytes ≡ true → header_len_of bytes + 8 ≤ t

fits_of : (bytes : List ℕ) → ((is_tcp bytes && is_tcp_short bytes) || (is_udp bytes && is_udp_short bytes)) ≡ false → Fits (total_of bytes) bytes
fits_of bytes is =
    let parts = neither (is_tcp bytes && is_tcp_short bytes) (is_udp bytes && is_udp_short bytes) is in
    record {
      tcp = λ some.
          let long = and_false (is_tcp bytes) (is_tcp_short bytes) parts.0 some in
          let first = neither (nat_lt (payload_len bytes) 20 || nat_lt (data_offset bytes) 20) (nat_lt (payload_len bytes) (data_offset bytes)) long in
          let h : 20 ≤ payload_len bytes = at_least (payload_len bytes) 20 (neither (nat_lt (payload_len bytes) 20) (nat_lt (data_offset bytes) 20) first.0).0 in
          omega arith;
      udp = λ some. let h : 8 ≤ payload_len bytes = at_least (payload_len bytes) 8 (and_false (is_udp bytes) (is_udp_short bytes) parts.1 some) in omega arith;
    }

either_fits : (a b : Bool) (n t : ℕ) → (a ≡ true → n + 20 ≤ t) → (b ≡ true → n + 8 ≤ t) → (a || b) ≡ true → n + 8 ≤ t
either_fits true b n t tcp udp some = let h : n + 20 ≤ t = tcp refl in omega arith
either_fits false b n t tcp udp some = udp some

port_same : (t : ℕ) (w bytes : List ℕ) (place : ℕ) → IsFront t w bytes → FrontSame w bytes → Fits t bytes → place ≤ 2 → port_at place w ≡ port_at place bytes
port_same t w bytes place same front fits low =
    let tests : (is_tcp w || is_udp w) ≡ (is_tcp bytes || is_udp bytes) = ap (λ (b : Bool). b || is_udp w) (tcp_same w bytes front) ∙ ap (λ (b : Bool). is_tcp bytes || b) (udp_same w bytes front) in
    ap (λ (b : Bool). if b then word_at w (header_len_of w + place) else 0) tests
    ∙ if_same (is_tcp bytes || is_udp bytes) (word_at w (header_len_of w + place)) (word_at bytes (header_len_of bytes + place)) (λ some.
    let h : header_len_of bytes + 8 ≤ t = either_fits (is_tcp bytes) (is_udp bytes) (header_len_of bytes) t fits.tcp fits.udp some in
    ap (λ (n : ℕ). word_at w (n + place)) front.header ∙ word_same t w bytes (header_len_of bytes + place) same (omega arith))

control_same : (t : ℕ) (w bytes : List ℕ) (value : ℕ) → IsFront t w bytes → FrontSame w bytes → Fits t bytes → control_bit value w ≡ control_bit value bytes
control_same t w bytes value same front fits =
    ap (λ (b : Bool). b && (get_or w (header_len_of w + 13) 0 / value % 2 == 1)) (tcp_same w bytes front)
    ∙ and_same (is_tcp bytes) (get_or w (header_len_of w + 13) 0 / value % 2 == 1) (get_or bytes (header_len_of bytes + 13) 0 / value % 2 == 1) (λ some.
    let h : header_len_of bytes + 20 ≤ t = fits.tcp some in
    ap (λ (x : ℕ). x / value % 2 == 1) (after_same t w bytes 13 same front (omega arith)))

short_same : (t : ℕ) (w bytes : List ℕ) → IsFront t w bytes → FrontSame w bytes → Fits t bytes →
    ((is_tcp w && is_tcp_short w) || (is_udp w && is_udp_short w)) ≡ ((is_tcp bytes && is_tcp_short bytes) || (is_udp bytes && is_udp_short bytes))
short_same t w bytes same front fits =
    let tcp : (is_tcp w && is_tcp_short w) ≡ (is_tcp bytes && is_tcp_short bytes) =
    ap (λ (b : Bool). b && is_tcp_short w) (tcp_same w bytes front) ∙ and_same (is_tcp bytes) (is_tcp_short w) (is_tcp_short bytes) (λ some. tcp_short_same t w bytes same front (fits.tcp some)) in
    let udp : (is_udp w && is_udp_short w) ≡ (is_udp bytes && is_udp_short bytes) =
    ap (λ (b : Bool). b && is_udp_short w) (udp_same w bytes front) ∙ ap (λ (b : Bool). is_udp bytes && b) (udp_short_same w bytes front) in
    ap (λ (b : Bool). b || (is_udp w && is_udp_short w)) tcp ∙ ap (λ (b : Bool). (is_tcp bytes && is_tcp_short bytes) || b) udp

-- heads that agree in each field
same_heads : (a b : Head) → a.header_len ≡ b.header_len → a.total ≡ b.total → a.code ≡ b.code → a.tos ≡ b.tos → a.id ≡ b.id → a.dont_fragment ≡ b.dont_fragment → a.fragment ≡ b.fragment → a.ttl ≡ b.ttl → a.src ≡ b.src → a.dst ≡ b.dst → a.sport ≡ b.sport → a.dport ≡ b.dport → a.syn ≡ b.syn → a.ack ≡ b.ack → a.fin ≡ b.fin → a.rst ≡ b.rst → a ≡ b
same_heads a b e_header_len e_total e_code e_tos e_id e_dont_fragment e_fragment e_ttl e_src e_dst e_sport e_dport e_syn e_ack e_fin e_rst =
    let same : (let it : Head = record { header_len = a.header_len; total = a.total; code = a.code; tos = a.tos; id = a.id; dont_fragment = a.dont_fragment; fragment = a.fragment; ttl = a.ttl; src = a.src; dst = a.dst; sport = a.sport; dport = a.dport; syn = a.syn; ack = a.ack; fin = a.fin; rst = a.rst } in it) ≡ (let other : Head = record { header_len = b.header_len; total = b.total; code = b.code; tos = b.tos; id = b.id; dont_fragment = b.dont_fragment; fragment = b.fragment; ttl = b.ttl; src = b.src; dst = b.dst; sport = b.sport; dport = b.dport; syn = b.syn; ack = b.ack; fin = b.fin; rst = b.rst } in other) = rw e_header_len (rw e_total (rw e_code (rw e_tos (rw e_id (rw e_dont_fragment (rw e_fragment (rw e_ttl (rw e_src (rw e_dst (rw e_sport (rw e_dport (rw e_syn (rw e_ack (rw e_fin (rw e_rst (refl)))))))))))))))) in
    same

head_same : (t : ℕ) (w bytes : List ℕ) → 20 ≤ t → IsFront t w bytes → FrontSame w bytes → Fits t bytes → head_of w ≡ head_of bytes
head_same t w bytes long same front fits =
    let tos : get_or w 1 0 ≡ get_or bytes 1 0 = same 1 (omega arith) in
    let id : word_at w 4 ≡ word_at bytes 4 = word_same t w bytes 4 same (omega arith) in
    let dont : dont_fragment w ≡ dont_fragment bytes = ap (λ (n : ℕ). n / 16384 % 2 == 1) front.flags in
    let fragment : is_fragment w ≡ is_fragment bytes = ap (λ (n : ℕ). n / 8192 % 2 == 1 || not (n % 8192 == 0)) front.flags in
    let ttl : get_or w 8 0 ≡ get_or bytes 8 0 = same 8 (omega arith) in
    let src : addr_at w 12 ≡ addr_at bytes 12 = ap (λ (n : ℕ). let a : Addr = record { number = n } in a) (omega (arith, word_same t w bytes 12 same (omega arith), word_same t w bytes 14 same (omega arith))) in
    let dst : addr_at w 16 ≡ addr_at bytes 16 = ap (λ (n : ℕ). let a : Addr = record { number = n } in a) (omega (arith, word_same t w bytes 16 same (omega arith), word_same t w bytes 18 same (omega arith))) in
    let sport = port_same t w bytes 0 same front fits (omega arith) in
    let dport = port_same t w bytes 2 same front fits (omega arith) in
    let syn = control_same t w bytes 2 same front fits in
    let ack = control_same t w bytes 16 same front fits in
    let fin = control_same t w bytes 1 same front fits in
    let rst = control_same t w bytes 4 same front fits in
    same_heads (head_of w) (head_of bytes) front.header front.total front.code tos id dont fragment ttl src dst sport dport syn ack fin rst

-- the reading of the packet alone
pub read_again : (bytes : List ℕ) (head : Head) → read bytes ≡ Ok head → read (whole_of bytes) ≡ Ok head
read_again bytes head is =
    let p = passed (nat_lt (length bytes) 20) (not (version_of bytes == 4)) (nat_lt (header_len_of bytes) 20 || nat_lt (length bytes) (header_len_of bytes)) (nat_lt (total_of bytes) (header_len_of bytes) || nat_lt (length bytes) (total_of bytes))
    (not (is_valid_header (take (header_len_of bytes) bytes))) ((is_tcp bytes && is_tcp_short bytes) || (is_udp bytes && is_udp_short bytes)) (head_of bytes) head is in
    let t : ℕ = total_of bytes in
    let w : List ℕ = whole_of bytes in
    let headers = neither (nat_lt (header_len_of bytes) 20) (nat_lt (length bytes) (header_len_of bytes)) p.header in
    let totals = neither (nat_lt t (header_len_of bytes)) (nat_lt (length bytes) t) p.total in
    let least : 20 ≤ header_len_of bytes = at_least (header_len_of bytes) 20 headers.0 in
    let within : header_len_of bytes ≤ t = at_least t (header_len_of bytes) totals.0 in
    let enough : t ≤ length bytes = at_least (length bytes) t totals.1 in
    let long : 20 ≤ t = omega arith in
    let as_long : length w ≡ t = length-take-le t bytes enough in
    let same : IsFront t w bytes = λ i h. get_or-take t bytes i 0 h in
    let front = front_same t w bytes long same in
    let fits = fits_of bytes p.above in
    let header_bytes : take (header_len_of w) w ≡ take (header_len_of bytes) bytes = ap (λ (n : ℕ). take n w) front.header ∙ take-take (header_len_of bytes) t bytes within in
    answered (nat_lt (length w) 20) (not (version_of w == 4)) (nat_lt (header_len_of w) 20 || nat_lt (length w) (header_len_of w)) (nat_lt (total_of w) (header_len_of w) || nat_lt (length w) (total_of w))
    (not (is_valid_header (take (header_len_of w) w))) ((is_tcp w && is_tcp_short w) || (is_udp w && is_udp_short w)) (head_of w) head
    (record {
      long = not_below (length w) 20 (omega (arith, as_long));
      version = ap (λ (n : ℕ). not (n == 4)) front.version ∙ p.version;
      header = both_false (nat_lt (header_len_of w) 20) (nat_lt (length w) (header_len_of w)) (not_below (header_len_of w) 20 (omega (arith, front.header))) (not_below (length w) (header_len_of w) (omega (arith, front.header, as_long)));
      total = both_false (nat_lt (total_of w) (header_len_of w)) (nat_lt (length w) (total_of w)) (not_below (total_of w) (header_len_of w) (omega (arith, front.header, front.total))) (not_below (length w) (total_of w) (omega (arith, front.total, as_long)));
      sum = ap (λ (xs : List ℕ). not (is_valid_header xs)) header_bytes ∙ p.sum;
      above = short_same t w bytes same front fits ∙ p.above;
      same = head_same t w bytes long same front fits ∙ p.same;
    })
