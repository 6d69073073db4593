-- A packet with an address, a port and both checksums replaced: which bytes stay, and its header and part.
use Rattle.std.proofs.Common.{◌≡◌, ◌≢◌, ℕ, ◌+◌, ◌/◌, ◌%◌, ◌<◌, ◌≤◌, ⊎_elim, List, length, get_or, take, drop, refl, ap, arith, ◌∙◌}
use Rattle.std.proofs.lemmas.Bool.{cases_lt}
use Rattle.lvs_model.specs.Fields.{word_at, number_at, word_bytes, number_bytes}
use Rattle.lvs_model.specs.Rewriting.{with_word, with_number}
use Rattle.lvs_sum.proofs.Puts.{put, length_put, get_or_put_before, get_or_put_after, get_or_put_in, take_put_before, take_put_around, drop_put_after, drop_put_around}

-- the places of a rewriting in a packet of a length: the header's end, the address in the header, and the port and the checksum in the part
pub record Places (size end address port check : ℕ) : Type 0 where
  pub long : 20 ≤ end
  pub even : end % 2 ≡ 0
  pub after : 12 ≤ address
  pub before : address ≤ 16
  pub apart : address % 4 ≡ 0
  pub first : port ≤ 2
  pub port_even : port % 2 ≡ 0
  pub later : 6 ≤ check
  pub check_even : check % 2 ≡ 0
  pub other : check ≢ 12
  pub fits : end + check + 2 ≤ size

-- the packet with the number of an address, a port and the two sums put at their places
abbrev pub changed : (end address port check : ℕ) → (number new_port header_sum part_sum : ℕ) → List ℕ → List ℕ
changed end address port check number new_port header_sum part_sum bytes =
    with_word (end + check) part_sum (with_word 10 header_sum (with_word (end + port) new_port (with_number address number bytes)))

get_or_put_other : (at k : ℕ) (w xs : List ℕ) (i : ℕ) → length w ≡ k → at + k ≤ length xs → (at ≤ i → at + k ≤ i) → get_or (put at k w xs) i 0 ≡ get_or xs i 0
get_or_put_other at k w xs i e fits apart =
    ⊎_elim (λ (before : i < at). get_or_put_before at k w xs i 0 fits before) (λ (after : at ≤ i). get_or_put_after at k w xs i 0 e fits (apart after)) (cases_lt i at)

pub length_word : (at n : ℕ) (bytes : List ℕ) → at + 2 ≤ length bytes → length (with_word at n bytes) ≡ length bytes
length_word at n bytes fits = length_put at 2 (word_bytes n) bytes refl fits

pub length_number : (at n : ℕ) (bytes : List ℕ) → at + 4 ≤ length bytes → length (with_number at n bytes) ≡ length bytes
length_number at n bytes fits = length_put at 4 (number_bytes n) bytes refl fits

pub other_word : (at n : ℕ) (bytes : List ℕ) (i : ℕ) → at + 2 ≤ length bytes → (at ≤ i → at + 2 ≤ i) → get_or (with_word at n bytes) i 0 ≡ get_or bytes i 0
other_word at n bytes i fits apart = get_or_put_other at 2 (word_bytes n) bytes i refl fits apart

pub other_number : (at n : ℕ) (bytes : List ℕ) (i : ℕ) → at + 4 ≤ length bytes → (at ≤ i → at + 4 ≤ i) → get_or (with_number at n bytes) i 0 ≡ get_or bytes i 0
other_number at n bytes i fits apart = get_or_put_other at 4 (number_bytes n) bytes i refl fits apart

this_word : (at n : ℕ) (bytes : List ℕ) → at + 2 ≤ length bytes → word_at (with_word at n bytes) at ≡ n
this_word at n bytes fits =
    let high = get_or_put_in at 2 (word_bytes n) bytes 0 0 refl fits (omega arith) in
    let low = get_or_put_in at 2 (word_bytes n) bytes 1 0 refl fits (omega arith) in
    let place : at + 0 ≡ at = omega arith in
    let first : get_or (with_word at n bytes) at 0 ≡ n / 256 = rw place at high in
    omega (arith, first, low)

this_number : (at n : ℕ) (bytes : List ℕ) → at + 4 ≤ length bytes → number_at (with_number at n bytes) at ≡ n
this_number at n bytes fits =
    let b0 = get_or_put_in at 4 (number_bytes n) bytes 0 0 refl fits (omega arith) in
    let b1 = get_or_put_in at 4 (number_bytes n) bytes 1 0 refl fits (omega arith) in
    let b2 = get_or_put_in at 4 (number_bytes n) bytes 2 0 refl fits (omega arith) in
    let b3 = get_or_put_in at 4 (number_bytes n) bytes 3 0 refl fits (omega arith) in
    let place : at + 0 ≡ at = omega arith in
    let last : at + 2 + 1 ≡ at + 3 = omega arith in
    let first : get_or (with_number at n bytes) at 0 ≡ n / 65536 / 256 = rw place at b0 in
    let fourth : get_or (with_number at n bytes) (at + 2 + 1) 0 ≡ n % 65536 % 256 = rw last b3 in
    omega (arith, first, b1, b2, fourth)

-- the length stays
pub length_changed : (end address port check number new_port header_sum part_sum : ℕ) (bytes : List ℕ) → Places (length bytes) end address port check
    → length (changed end address port check number new_port header_sum part_sum bytes) ≡ length bytes
length_changed end address port check number new_port header_sum part_sum bytes places =
    let one : List ℕ = with_number address number bytes in
    let two : List ℕ = with_word (end + port) new_port one in
    let three : List ℕ = with_word 10 header_sum two in
    let e1 = length_number address number bytes (omega arith) in
    let e2 = length_word (end + port) new_port one (omega arith) in
    let e3 = length_word 10 header_sum two (omega arith) in
    length_word (end + check) part_sum three (omega arith) ∙ e3 ∙ e2 ∙ e1

-- a byte stays that is at none of the places
pub stays : (end address port check number new_port header_sum part_sum : ℕ) (bytes : List ℕ) → Places (length bytes) end address port check
    → (i : ℕ) → (address ≤ i → address + 4 ≤ i) → (end + port ≤ i → end + port + 2 ≤ i) → (10 ≤ i → 12 ≤ i) → (end + check ≤ i → end + check + 2 ≤ i)
    → get_or (changed end address port check number new_port header_sum part_sum bytes) i 0 ≡ get_or bytes i 0
stays end address port check number new_port header_sum part_sum bytes places i past_address past_port past_sum past_check =
    let one : List ℕ = with_number address number bytes in
    let two : List ℕ = with_word (end + port) new_port one in
    let three : List ℕ = with_word 10 header_sum two in
    let e1 = length_number address number bytes (omega arith) in
    let e2 = length_word (end + port) new_port one (omega arith) in
    let e3 = length_word 10 header_sum two (omega arith) in
    other_word (end + check) part_sum three i (omega arith) past_check
    ∙ other_word 10 header_sum two i (omega arith) past_sum
    ∙ other_word (end + port) new_port one i (omega arith) past_port
    ∙ other_number address number bytes i (omega arith) past_address

-- the header afterwards
pub header_changed : (end address port check number new_port header_sum part_sum : ℕ) (bytes : List ℕ) → Places (length bytes) end address port check
    → take end (changed end address port check number new_port header_sum part_sum bytes) ≡ with_word 10 header_sum (with_number address number (take end bytes))
header_changed end address port check number new_port header_sum part_sum bytes places =
    let one : List ℕ = with_number address number bytes in
    let two : List ℕ = with_word (end + port) new_port one in
    let three : List ℕ = with_word 10 header_sum two in
    let e1 = length_number address number bytes (omega arith) in
    let e2 = length_word (end + port) new_port one (omega arith) in
    let e3 = length_word 10 header_sum two (omega arith) in
    let h1 : take end one ≡ with_number address number (take end bytes) = take_put_around end address 4 (number_bytes number) bytes refl (omega arith) (omega arith) in
    let h2 : take end two ≡ take end one = take_put_before end (end + port) 2 (word_bytes new_port) one (omega arith) (omega arith) in
    let h3 : take end three ≡ with_word 10 header_sum (take end two) = take_put_around end 10 2 (word_bytes header_sum) two refl (omega arith) (omega arith) in
    let h4 = take_put_before end (end + check) 2 (word_bytes part_sum) three (omega arith) (omega arith) in
    h4 ∙ h3 ∙ ap (with_word 10 header_sum) (h2 ∙ h1)

-- the part afterwards
pub part_changed : (end address port check number new_port header_sum part_sum : ℕ) (bytes : List ℕ) → Places (length bytes) end address port check
    → drop end (changed end address port check number new_port header_sum part_sum bytes) ≡ with_word check part_sum (with_word port new_port (drop end bytes))
part_changed end address port check number new_port header_sum part_sum bytes places =
    let one : List ℕ = with_number address number bytes in
    let two : List ℕ = with_word (end + port) new_port one in
    let three : List ℕ = with_word 10 header_sum two in
    let e1 = length_number address number bytes (omega arith) in
    let e2 = length_word (end + port) new_port one (omega arith) in
    let e3 = length_word 10 header_sum two (omega arith) in
    let p1 : drop end one ≡ drop end bytes = drop_put_after end address 4 (number_bytes number) bytes refl (omega arith) (omega arith) in
    let p2 : drop end two ≡ with_word port new_port (drop end one) = drop_put_around end port 2 (word_bytes new_port) one refl (omega arith) in
    let p3 : drop end three ≡ drop end two = drop_put_after end 10 2 (word_bytes header_sum) two refl (omega arith) (omega arith) in
    let p4 = drop_put_around end check 2 (word_bytes part_sum) three refl (omega arith) in
    p4 ∙ ap (with_word check part_sum) (p3 ∙ p2 ∙ ap (with_word port new_port) p1)

-- the address afterwards
pub address_changed : (end address port check number new_port header_sum part_sum : ℕ) (bytes : List ℕ) → Places (length bytes) end address port check
    → number_at (changed end address port check number new_port header_sum part_sum bytes) address ≡ number
address_changed end address port check number new_port header_sum part_sum bytes places =
    let one : List ℕ = with_number address number bytes in
    let two : List ℕ = with_word (end + port) new_port one in
    let three : List ℕ = with_word 10 header_sum two in
    let all : List ℕ = changed end address port check number new_port header_sum part_sum bytes in
    let e1 = length_number address number bytes (omega arith) in
    let e2 = length_word (end + port) new_port one (omega arith) in
    let e3 = length_word 10 header_sum two (omega arith) in
    let same = (λ (i : ℕ) (low : address ≤ i) (high : i < address + 4).
    other_word (end + check) part_sum three i (omega arith) (λ h. omega arith)
    ∙ other_word 10 header_sum two i (omega arith) (λ h. omega arith)
    ∙ other_word (end + port) new_port one i (omega arith) (λ h. omega arith)) in
    let b0 : get_or all address 0 ≡ get_or one address 0 = same address (omega arith) (omega arith) in
    let b1 : get_or all (address + 1) 0 ≡ get_or one (address + 1) 0 = same (address + 1) (omega arith) (omega arith) in
    let b2 : get_or all (address + 2) 0 ≡ get_or one (address + 2) 0 = same (address + 2) (omega arith) (omega arith) in
    let b3 : get_or all (address + 2 + 1) 0 ≡ get_or one (address + 2 + 1) 0 = same (address + 2 + 1) (omega arith) (omega arith) in
    omega (arith, b0, b1, b2, b3, this_number address number bytes (omega arith))

-- the sum of the part afterwards
pub last_word : (end address port check number new_port header_sum part_sum : ℕ) (bytes : List ℕ) → Places (length bytes) end address port check
    → word_at (changed end address port check number new_port header_sum part_sum bytes) (end + check) ≡ part_sum
last_word end address port check number new_port header_sum part_sum bytes places =
    let one : List ℕ = with_number address number bytes in
    let two : List ℕ = with_word (end + port) new_port one in
    let three : List ℕ = with_word 10 header_sum two in
    let e1 = length_number address number bytes (omega arith) in
    let e2 = length_word (end + port) new_port one (omega arith) in
    let e3 = length_word 10 header_sum two (omega arith) in
    this_word (end + check) part_sum three (omega arith)
