-- An embedded packet is what its sender sent: the first bytes of a masqueraded packet with the address and the port put back.
use Rattle.std.proofs.Common.{◌≡◌, ℕ, zero, suc, ◌+◌, ◌-◌, ◌<◌, ◌≤◌, ⊎_elim, List, length, get_or, take, refl, sym, ap, ◌∙◌, arith}
use Rattle.std.proofs.lemmas.Bool.{cases_lt}
use Rattle.std.proofs.lemmas.List.{get_or-take, length-take-le}
use Rattle.std.proofs.lemmas.Grind.{same_number_lists}
use Rattle.lvs_sum.specs.Sums.{update32}
use Rattle.lvs_sum.proofs.Keeping.{AreBytes}
use Rattle.lvs_sum.proofs.Puts.{put, get_or_put_before, get_or_put_after, get_or_put_in}
use Rattle.lvs_model.specs.Fields.{word_at, number_at, word_bytes, number_bytes}
use Rattle.lvs_model.specs.Rewriting.{with_word, with_number}
use Rattle.lvs_rewrite.proofs.Changes.{Places, changed, length_changed, length_word, length_number, other_word, stays}
use Rattle.lvs_icmp.specs.Recognised.{without_sum}
use Rattle.lvs_icmp.proofs.Headers.{with_address}

-- the bytes of a word that stands in a list
word_back : (bytes : List ℕ) (at : ℕ) → AreBytes bytes → (j : ℕ) → j < 2 → get_or (word_bytes (word_at bytes at)) j 0 ≡ get_or bytes (at + j) 0
word_back bytes at are zero small =
    let high = are at in
    let low = are (at + 1) in
    let place : at + 0 ≡ at = omega arith in
    rw place (omega arith)
word_back bytes at are (suc zero) small =
    let high = are at in
    let low = are (at + 1) in
    omega arith
word_back bytes at are (suc (suc j)) small = absurd (omega arith)

-- the bytes of a number that stands in a list
number_back : (bytes : List ℕ) (at : ℕ) → AreBytes bytes → (j : ℕ) → j < 4 → get_or (number_bytes (number_at bytes at)) j 0 ≡ get_or bytes (at + j) 0
number_back bytes at are zero small =
    let b0 = are at in
    let b1 = are (at + 1) in
    let b2 = are (at + 2) in
    let b3 = are (at + 2 + 1) in
    let place : at + 0 ≡ at = omega arith in
    rw place (omega arith)
number_back bytes at are (suc zero) small =
    let b0 = are at in
    let b1 = are (at + 1) in
    let b2 = are (at + 2) in
    let b3 = are (at + 2 + 1) in
    omega arith
number_back bytes at are (suc (suc zero)) small =
    let b0 = are at in
    let b1 = are (at + 1) in
    let b2 = are (at + 2) in
    let b3 = are (at + 2 + 1) in
    omega arith
number_back bytes at are (suc (suc (suc zero))) small =
    let b0 = are at in
    let b1 = are (at + 1) in
    let b2 = are (at + 2) in
    let b3 = are (at + 2 + 1) in
    let place : at + 2 + 1 ≡ at + 3 = omega arith in
    let last : get_or bytes (at + 2 + 1) 0 ≡ get_or bytes (at + 3) 0 = ap (λ (n : ℕ). get_or bytes n 0) place in
    omega (arith, last)
number_back bytes at are (suc (suc (suc (suc j)))) small = absurd (omega arith)

-- a byte after bytes were put, by whether it is one of them
put_over : (at k : ℕ) (w xs bytes : List ℕ) (i : ℕ) → length w ≡ k → at + k ≤ length xs → ((j : ℕ) → j < k → get_or w j 0 ≡ get_or bytes (at + j) 0) → ((at ≤ i → at + k ≤ i) → get_or xs i 0 ≡ get_or bytes i 0)
    → get_or (put at k w xs) i 0 ≡ get_or bytes i 0
put_over at k w xs bytes i size fits inside outside =
    ⊎_elim
    (λ (before : i < at). get_or_put_before at k w xs i 0 fits before ∙ outside (λ h. omega arith))
    (λ (from : at ≤ i).
    ⊎_elim
    (λ (within : i < at + k).
    let place : i ≡ at + (i - at) = omega arith in
    ap (λ (n : ℕ). get_or (put at k w xs) n 0) place ∙ get_or_put_in at k w xs (i - at) 0 size fits (omega arith) ∙ inside (i - at) (omega arith) ∙ ap (λ (n : ℕ). get_or bytes n 0) (sym place))
    (λ (past : at + k ≤ i). get_or_put_after at k w xs i 0 size fits past ∙ outside (λ h. past))
    (cases_lt i (at + k)))
    (cases_lt i at)

-- two packets without the sums of their headers, by the bytes outside these
same_without : (xs ys : List ℕ) → 12 ≤ length xs → length xs ≡ length ys → ((i : ℕ) → i < length xs → (10 ≤ i → 12 ≤ i) → get_or xs i 0 ≡ get_or ys i 0) → without_sum xs ≡ without_sum ys
same_without xs ys fits size same =
    let size_x : length (without_sum xs) ≡ length xs = length_word 10 0 xs fits in
    let size_y : length (without_sum ys) ≡ length ys = length_word 10 0 ys (omega arith) in
    same_number_lists (without_sum xs) (without_sum ys) (omega arith)
    (λ i small.
    put_over 10 2 (word_bytes 0) xs (without_sum ys) i refl fits
    (λ j few. sym (get_or_put_in 10 2 (word_bytes 0) ys j 0 refl (omega arith) few))
    (λ outside. same i (omega arith) outside ∙ sym (other_word 10 0 ys i (omega arith) outside)))

-- the address and the port are put back
pub restored : (end address port check number new_port header_sum part_sum : ℕ) (bytes : List ℕ) → Places (length bytes) end address port check → 8 ≤ check → AreBytes bytes
    → without_sum (with_address address (number_at bytes address) (with_word (end + port) (word_at bytes (end + port)) (take (end + 8) (changed end address port check number new_port header_sum part_sum bytes))))
    ≡ without_sum (take (end + 8) bytes)
restored end address port check number new_port header_sum part_sum bytes places later are =
    let now : List ℕ = changed end address port check number new_port header_sum part_sum bytes in
    let part : List ℕ = take (end + 8) now in
    let one : List ℕ = with_word (end + port) (word_at bytes (end + port)) part in
    let two : List ℕ = with_number address (number_at bytes address) one in
    let sum : ℕ = update32 (word_at two 10) (number_at one address) (number_at bytes address) in
    let size_now : length now ≡ length bytes = length_changed end address port check number new_port header_sum part_sum bytes places in
    let size_part : length part ≡ end + 8 = length-take-le (end + 8) now (omega arith) in
    let size_one : length one ≡ length part = length_word (end + port) (word_at bytes (end + port)) part (omega arith) in
    let size_two : length two ≡ length one = length_number address (number_at bytes address) one (omega arith) in
    let size_three : length (with_word 10 sum two) ≡ length two = length_word 10 sum two (omega arith) in
    let size_bytes : length (take (end + 8) bytes) ≡ end + 8 = length-take-le (end + 8) bytes (omega arith) in
    same_without (with_word 10 sum two) (take (end + 8) bytes) (omega arith) (omega arith)
    (λ i small past_sum.
    other_word 10 sum two i (omega arith) past_sum
    ∙ put_over address 4 (number_bytes (number_at bytes address)) one bytes i refl (omega arith) (number_back bytes address are)
    (λ past_address.
    put_over (end + port) 2 (word_bytes (word_at bytes (end + port))) part bytes i refl (omega arith) (word_back bytes (end + port) are)
    (λ past_port.
    get_or-take (end + 8) now i 0 (omega arith)
    ∙ stays end address port check number new_port header_sum part_sum bytes places i past_address past_port past_sum (λ h. omega arith)))
    ∙ sym (get_or-take (end + 8) bytes i 0 (omega arith)))
