-- IP headers with what stands behind them: of a packet that was read, and with an address replaced.
use Rattle.std.proofs.Common.{◌≡◌, ℕ, ◌+◌, ◌-◌, ◌*◌, ◌%◌, ◌<◌, ◌≤◌, ⊎_elim, Bool, true, false, not, ◌&&◌, ◌||◌, ◌==◌, nat_lt, List, ◌++◌, length, get_or, take, drop, Ok, refl, sym, ap, subst, ◌∙◌, arith, length-append, length-drop}
use Rattle.std.proofs.lemmas.Bool.{cases_lt}
use Rattle.std.proofs.lemmas.Bool.Decides.{nat_tests}
use Rattle.std.proofs.lemmas.List.{get_or-take, get_or_past, get_or_append_left, length-take-le, take_all}
use Rattle.std.proofs.Math.Seq.{take-append_seam, drop-append_seam}
use Rattle.lvs_types.specs.declared.head.Head.{Head}
use Rattle.lvs_sum.specs.Sums.{word_sum, update32, is_valid_header}
use Rattle.lvs_sum.proofs.Folding.{test_full, full_test}
use Rattle.lvs_sum.proofs.Keeping.{AreBytes, header_keeps}
use Rattle.lvs_model.specs.Fields.{word_at, number_at}
use Rattle.lvs_model.specs.Reading.{read, head_of, header_len_of, total_of, version_of, payload_of, is_tcp, is_tcp_short, is_udp, is_udp_short}
use Rattle.lvs_model.specs.Rewriting.{with_word, with_number}
use Rattle.lvs_rewrite.proofs.Changes.{length_word, length_number, other_word, other_number}
use Rattle.lvs_rewrite.proofs.Reading.{chain, told}

-- A HEADER AND WHAT STANDS BEHIND IT

-- a header that tells its own length, and the length with so many bytes behind it
pub record IsHead (header : List ℕ) (behind : ℕ) : Type 0 where
  pub long : 20 ≤ length header
  pub len : header_len_of header ≡ length header
  pub total : total_of header ≡ length header + behind

same_byte : (header message : List ℕ) (i : ℕ) → 20 ≤ length header → i < 20 → get_or (header ++ message) i 0 ≡ get_or header i 0
same_byte header message i long small = get_or_append_left header message 0 i (omega arith)

len_joined : (header message : List ℕ) → IsHead header (length message) → header_len_of (header ++ message) ≡ length header
len_joined header message h = ap (λ (n : ℕ). 4 * (n % 16)) (same_byte header message 0 h.long (omega arith)) ∙ h.len

pub header_joined : (header message : List ℕ) → IsHead header (length message) → take (header_len_of (header ++ message)) (header ++ message) ≡ header
header_joined header message h = ap (λ (n : ℕ). take n (header ++ message)) (len_joined header message h) ∙ take-append_seam header message

pub payload_joined : (header message : List ℕ) → IsHead header (length message) → payload_of (header ++ message) ≡ message
payload_joined header message h =
    let high = same_byte header message 2 h.long (omega arith) in
    let low = same_byte header message 3 h.long (omega arith) in
    let total : total_of (header ++ message) ≡ total_of header = omega (arith, high, low) in
    let whole : take (total_of (header ++ message)) (header ++ message) ≡ header ++ message =
    take_all (total_of (header ++ message)) (header ++ message) (omega (arith, total, h.total, length-append header message)) in
    ap (drop (header_len_of (header ++ message))) whole ∙ ap (λ (n : ℕ). drop n (header ++ message)) (len_joined header message h) ∙ drop-append_seam header message

-- A HEADER THAT WAS READ

-- a right header of bytes
pub record IsRightHead (header : List ℕ) (behind : ℕ) : Type 0 where
  pub head : IsHead header behind
  pub valid : is_valid_header header ≡ true
  pub are : AreBytes header
  pub begins : 0 < word_at header 0

at_least : (n m : ℕ) → nat_lt n m ≡ false → m ≤ n
at_least n m is = grind (arith, nat_tests)

second_of : (a b : Bool) → a || b ≡ false → b ≡ false
second_of true b is = absurd cc
second_of false b is = is

-- the fourth test of the reading didn't fail
fourth : (a b c d e f : Bool) (h head : Head) → chain a b c d e f h ≡ Ok head → d ≡ false
fourth true b c d e f h head is = absurd cc
fourth false true c d e f h head is = absurd cc
fourth false false true d e f h head is = absurd cc
fourth false false false true e f h head is = absurd cc
fourth false false false false e f h head is = refl

pub fits_of : (bytes : List ℕ) (head : Head) → read bytes ≡ Ok head → total_of bytes ≤ length bytes
fits_of bytes head is =
    let test = fourth (nat_lt (length bytes) 20) (not (version_of bytes == 4)) (nat_lt (header_len_of bytes) 20 || nat_lt (length bytes) (header_len_of bytes)) (nat_lt (total_of bytes) (header_len_of bytes) || nat_lt (length bytes) (total_of bytes))
    (not (is_valid_header (take (header_len_of bytes) bytes))) ((is_tcp bytes && is_tcp_short bytes) || (is_udp bytes && is_udp_short bytes)) (head_of bytes) head is in
    at_least (length bytes) (total_of bytes) (second_of (nat_lt (total_of bytes) (header_len_of bytes)) (nat_lt (length bytes) (total_of bytes)) test)

take_bytes : (n : ℕ) (bytes : List ℕ) → n ≤ length bytes → AreBytes bytes → AreBytes (take n bytes)
take_bytes n bytes fits are k =
    ⊎_elim
    (λ (before : k < n). omega (arith, get_or-take n bytes k 0 before, are k))
    (λ (after : n ≤ k). omega (arith, get_or_past (take n bytes) k 0 (omega (arith, length-take-le n bytes fits))))
    (cases_lt k n)

-- the length of what stands behind the header
abbrev behind_of : List ℕ → ℕ
behind_of bytes = length (drop (header_len_of bytes) (take (total_of bytes) bytes))

head_here : (bytes : List ℕ) → 20 ≤ header_len_of bytes → header_len_of bytes ≤ total_of bytes → total_of bytes ≤ length bytes → IsHead (take (header_len_of bytes) bytes) (behind_of bytes)
head_here bytes long within fits =
    let n : ℕ = header_len_of bytes in
    let size : length (take n bytes) ≡ n = length-take-le n bytes (omega arith) in
    let whole : length (take (total_of bytes) bytes) ≡ total_of bytes = length-take-le (total_of bytes) bytes fits in
    let rest : behind_of bytes ≡ total_of bytes - n = length-drop n (take (total_of bytes) bytes) ∙ ap (λ (k : ℕ). k - n) whole in
    let first : get_or (take n bytes) 0 0 ≡ get_or bytes 0 0 = get_or-take n bytes 0 0 (omega arith) in
    let high : get_or (take n bytes) 2 0 ≡ get_or bytes 2 0 = get_or-take n bytes 2 0 (omega arith) in
    let low : get_or (take n bytes) 3 0 ≡ get_or bytes 3 0 = get_or-take n bytes 3 0 (omega arith) in
    record {
      long = omega arith;
      len = ap (λ (k : ℕ). 4 * (k % 16)) first ∙ sym size;
      total = omega (arith, high, low, rest, size);
    }

right_here : (bytes : List ℕ) → 20 ≤ header_len_of bytes → header_len_of bytes ≤ total_of bytes → total_of bytes ≤ length bytes → is_valid_header (take (header_len_of bytes) bytes) ≡ true → 4 ≤ version_of bytes → AreBytes bytes
    → IsRightHead (take (header_len_of bytes) bytes) (behind_of bytes)
right_here bytes long within fits valid version are =
    let n : ℕ = header_len_of bytes in
    let first : get_or (take n bytes) 0 0 ≡ get_or bytes 0 0 = get_or-take n bytes 0 0 (omega arith) in
    record {
      head = head_here bytes long within fits;
      valid = valid;
      are = take_bytes n bytes (omega arith) are;
      begins = omega (arith, first);
    }

-- the header of a packet that was read
pub right_of : (bytes : List ℕ) (head : Head) → read bytes ≡ Ok head → AreBytes bytes → IsRightHead (take head.header_len bytes) (length (drop head.header_len (take head.total bytes)))
right_of bytes head is are =
    let t = told bytes head is in
    subst (λ (h : Head). IsRightHead (take h.header_len bytes) (length (drop h.header_len (take h.total bytes)))) t.5 (right_here bytes t.1 t.2 (fits_of bytes head is) t.3 t.6 are)

abbrev Whole : List ℕ → ℕ → Type 0
Whole bytes n = (n ≡ length (take n bytes)) × (20 ≤ length (take n bytes))

whole_here : (bytes : List ℕ) → 20 ≤ header_len_of bytes → header_len_of bytes ≤ total_of bytes → total_of bytes ≤ length bytes → Whole bytes (header_len_of bytes)
whole_here bytes long within fits =
    let size : length (take (header_len_of bytes) bytes) ≡ header_len_of bytes = length-take-le (header_len_of bytes) bytes (omega arith) in
    (sym size, omega arith)

-- the header is whole, and has at least 20 bytes
pub header_whole : (bytes : List ℕ) (head : Head) (n : ℕ) → read bytes ≡ Ok head → n ≡ head.header_len → Whole bytes n
header_whole bytes head n is same =
    let t = told bytes head is in
    let len : header_len_of bytes ≡ head.header_len = ap (λ (h : Head). h.header_len) t.5 in
    subst (Whole bytes) (len ∙ sym same) (whole_here bytes t.1 t.2 (fits_of bytes head is))

-- what stands behind it is the packet's payload
pub payload_is : (bytes : List ℕ) (head : Head) → read bytes ≡ Ok head → payload_of bytes ≡ drop head.header_len (take head.total bytes)
payload_is bytes head is = ap (λ (h : Head). drop h.header_len (take h.total bytes)) (told bytes head is).5

-- ANOTHER ADDRESS

-- a header with another address at 12 or 16, and its checksum updated
abbrev pub with_address : ℕ → ℕ → List ℕ → List ℕ
with_address at new header = with_word 10 (update32 (word_at (with_number at new header) 10) (number_at header at) new) (with_number at new header)

pub length_address : (at new : ℕ) (header : List ℕ) → at ≤ 16 → 20 ≤ length header → length (with_address at new header) ≡ length header
length_address at new header before long =
    let one : List ℕ = with_number at new header in
    let same : length one ≡ length header = length_number at new header (omega arith) in
    length_word 10 (update32 (word_at one 10) (number_at header at) new) one (omega arith) ∙ same

byte_address : (at new : ℕ) (header : List ℕ) (i : ℕ) → 12 ≤ at → at ≤ 16 → 20 ≤ length header → i < 10 → get_or (with_address at new header) i 0 ≡ get_or header i 0
byte_address at new header i after before long small =
    let one : List ℕ = with_number at new header in
    let same : length one ≡ length header = length_number at new header (omega arith) in
    other_word 10 (update32 (word_at one 10) (number_at header at) new) one i (omega arith) (λ h. omega arith) ∙ other_number at new header i (omega arith) (λ h. omega arith)

pub head_address : (at new behind more : ℕ) (header : List ℕ) → 12 ≤ at → at ≤ 16 → behind ≡ more → IsHead header behind → IsHead (with_address at new header) more
head_address at new behind more header after before same h =
    let long : 20 ≤ length header = h.long in
    let size : length (with_address at new header) ≡ length header = length_address at new header before long in
    let first : get_or (with_address at new header) 0 0 ≡ get_or header 0 0 = byte_address at new header 0 after before long (omega arith) in
    let high : get_or (with_address at new header) 2 0 ≡ get_or header 2 0 = byte_address at new header 2 after before long (omega arith) in
    let low : get_or (with_address at new header) 3 0 ≡ get_or header 3 0 = byte_address at new header 3 after before long (omega arith) in
    let total : total_of header ≡ length header + behind = h.total in
    record {
      long = omega arith;
      len = ap (λ (k : ℕ). 4 * (k % 16)) first ∙ h.len ∙ sym size;
      total = omega (arith, high, low, total, size, same);
    }

pub valid_address : (at new behind : ℕ) (header : List ℕ) → at % 2 ≡ 0 → 12 ≤ at → at ≤ 16 → IsRightHead header behind → is_valid_header (with_address at new header) ≡ true
valid_address at new behind header even after before h =
    let long : 20 ≤ length header = h.head.long in
    let one : List ℕ = with_number at new header in
    let high = other_number at new header 10 (omega arith) (λ h. omega arith) in
    let low = other_number at new header 11 (omega arith) (λ h. omega arith) in
    let field : word_at one 10 ≡ word_at header 10 = omega (arith, high, low) in
    let kept = header_keeps at new header even after (omega arith) h.are h.begins (test_full (word_sum header) h.valid) in
    let plain : List ℕ = with_word 10 (update32 (word_at header 10) (number_at header at) new) one in
    let same : with_address at new header ≡ plain = ap (λ (n : ℕ). with_word 10 (update32 n (number_at header at) new) one) field in
    ap is_valid_header same ∙ full_test (word_sum plain) kept
