-- Headers and parts whose checksums stay right where an address and a port in them change.
use Rattle.std.proofs.Common.{◌≡◌, ◌≢◌, ℕ, ◌+◌, ◌-◌, ◌*◌, ◌/◌, ◌%◌, ◌<◌, ◌≤◌, List, [], ◌∷◌, length, get_or, refl, sym, ap, arith, ◌∙◌}
use Rattle.std.specs.Prelude.{if◌then◌else◌, ◌==◌}
use Rattle.lvs_sum.specs.Sums.{word_sum, folded, update16, update32}
use Rattle.lvs_sum.proofs.Folding.{update16_keeps, update32_keeps, update16_small, ones_keep}
use Rattle.lvs_sum.proofs.Puts.{put, length_put}
use Rattle.lvs_sum.proofs.WordSums.{word, put_word, put_number, word_sum_at, word-put_before, word_sum-two_puts, two_words_le, word_sum-word_number}

-- a checksum after an address and a port that it covers have changed
abbrev pub moved_sum : ℕ → ℕ → ℕ → ℕ → ℕ → ℕ
moved_sum sum old new old_port new_port = update16 (update32 sum old new) old_port new_port

pub moved_keeps : (rest sum old new old_port new_port : ℕ) → 0 < rest → sum ≤ 65535 → old < 4294967296 → old_port ≤ 65535 →
    folded (rest + sum + (old / 65536 + old % 65536) + old_port) ≡ 65535 →
    folded (rest + moved_sum sum old new old_port new_port + (new / 65536 + new % 65536) + new_port) ≡ 65535
moved_keeps rest sum old new old_port new_port some s o p full =
    let turned : rest + sum + (old / 65536 + old % 65536) + old_port ≡ rest + old_port + sum + (old / 65536 + old % 65536) = omega arith in
    let moved : folded (rest + old_port + update32 sum old new + (new / 65536 + new % 65536)) ≡ 65535 =
    update32_keeps (rest + old_port) sum old new (omega arith) s o (ap folded (sym turned) ∙ full) in
    let turned_too : rest + old_port + update32 sum old new + (new / 65536 + new % 65536) ≡ rest + (new / 65536 + new % 65536) + update32 sum old new + old_port = omega arith in
    let last : folded (rest + (new / 65536 + new % 65536) + moved_sum sum old new old_port new_port + new_port) ≡ 65535 =
    update16_keeps (rest + (new / 65536 + new % 65536)) (update32 sum old new) old_port new_port (omega arith)
    (update16_small (update16 sum (old / 65536) (new / 65536)) (old % 65536) (new % 65536)) p (ap folded (sym turned_too) ∙ moved) in
    let back : rest + moved_sum sum old new old_port new_port + (new / 65536 + new % 65536) + new_port ≡ rest + (new / 65536 + new % 65536) + moved_sum sum old new old_port new_port + new_port = omega arith in
    ap folded back ∙ last

abbrev pub AreBytes : List ℕ → Type 0
AreBytes bytes = (k : ℕ) → get_or bytes k 0 < 256

-- a header whose checksum, at 10, is right keeps a right one where a number after it changes: an address (RFC 791, section 3.1)
pub header_keeps : (at new : ℕ) (header : List ℕ) → at % 2 ≡ 0 → 12 ≤ at → at + 4 ≤ length header → AreBytes header → 0 < word header 0 →
    folded (word_sum header) ≡ 65535 →
    folded (word_sum (put_word 10 (update32 (word header 10) (65536 * word header at + word header (at + 2)) new) (put_number at new header))) ≡ 65535
header_keeps at new header even after fits bytes some full =
    let old : ℕ = 65536 * word header at + word header (at + 2) in
    let sum : ℕ = word header 10 in
    let b0 = bytes at in
    let b1 = bytes (at + 1) in
    let b2 = bytes (at + 2) in
    let b3 = bytes (at + 2 + 1) in
    let c0 = bytes 10 in
    let c1 = bytes 11 in
    let high : old / 65536 ≡ word header at = omega arith in
    let low : old % 65536 ≡ word header (at + 2) = omega arith in
    let without = word_sum-word_number 10 0 at 0 header refl even after fits in
    let w : List ℕ = 0 ∷ 0 ∷ 0 ∷ 0 ∷ [] in
    let zeroed : List ℕ = put_word 10 0 (put_number at 0 header) in
    let as_long : length zeroed ≡ length header = length_put 10 2 (0 ∷ 0 ∷ []) (put at 4 w header) refl (omega (arith, length_put at 4 w header refl fits)) ∙ length_put at 4 w header refl fits in
    let first : word zeroed 0 ≡ word header 0 =
    word-put_before 10 2 0 (0 ∷ 0 ∷ []) (put at 4 w header) (omega (arith, length_put at 4 w header refl fits)) (omega arith) ∙ word-put_before at 4 0 w header fits (omega arith) in
    let rest_some : 0 < word_sum zeroed = omega (arith, word_sum_at 0 zeroed refl (omega (arith, as_long)), first) in
    let before : word_sum zeroed + sum + (old / 65536 + old % 65536) ≡ word_sum header = omega (arith, without, high, low) in
    let kept : folded (word_sum zeroed + update32 sum old new + (new / 65536 + new % 65536)) ≡ 65535 =
    update32_keeps (word_sum zeroed) sum old new rest_some (omega arith) (omega arith) (ap folded before ∙ full) in
    let with = word_sum-word_number 10 (update32 sum old new) at new header refl even after fits in
    let same : word_sum (put_word 10 (update32 sum old new) (put_number at new header)) ≡ word_sum zeroed + update32 sum old new + (new / 65536 + new % 65536) = omega (arith, without, with) in
    ap folded same ∙ kept

-- the sum of a part without its checksum and a port
pub part_rest : (check at : ℕ) (part : List ℕ) → check % 2 ≡ 0 → at % 2 ≡ 0 → check ≢ at → check + 2 ≤ length part → at + 2 ≤ length part →
    (sum new : ℕ) → word_sum (put_word check sum (put_word at new part)) ≡ word_sum part - (word part check + word part at) + (sum + new)
part_rest check at part even even_too apart fits fits_too sum new =
    omega (arith, word_sum-two_puts check sum at new part even even_too apart fits fits_too, two_words_le check at part even even_too apart fits fits_too)

-- a part whose checksum is right, with what its pseudo header adds, keeps a right one where an address of the pseudo header and a port change
pub part_keeps : (beside old new at new_port check : ℕ) (part : List ℕ) → 0 < beside → old < 4294967296 → AreBytes part →
    check % 2 ≡ 0 → at % 2 ≡ 0 → check ≢ at → check + 2 ≤ length part → at + 2 ≤ length part →
    folded (beside + (old / 65536 + old % 65536) + word_sum part) ≡ 65535 →
    folded (beside + (new / 65536 + new % 65536) + word_sum (put_word check (moved_sum (word part check) old new (word part at) new_port) (put_word at new_port part))) ≡ 65535
part_keeps beside old new at new_port check part some o bytes even even_too apart fits fits_too full =
    let sum : ℕ = word part check in
    let moved : ℕ = moved_sum sum old new (word part at) new_port in
    let rest : ℕ = beside + (word_sum part - (sum + word part at)) in
    let b0 = bytes at in
    let b1 = bytes (at + 1) in
    let c0 = bytes check in
    let c1 = bytes (check + 1) in
    let most = two_words_le check at part even even_too apart fits fits_too in
    let before : rest + sum + (old / 65536 + old % 65536) + word part at ≡ beside + (old / 65536 + old % 65536) + word_sum part = omega (arith, most) in
    let kept : folded (rest + moved + (new / 65536 + new % 65536) + new_port) ≡ 65535 =
    moved_keeps rest sum old new (word part at) new_port (omega arith) (omega arith) o (omega arith) (ap folded before ∙ full) in
    let same : beside + (new / 65536 + new % 65536) + word_sum (put_word check moved (put_word at new_port part)) ≡ rest + moved + (new / 65536 + new % 65536) + new_port =
    omega (arith, part_rest check at part even even_too apart fits fits_too moved new_port) in
    ap folded same ∙ kept

-- the same where a checksum of 0 is written as 65535 (RFC 768)
pub part_keeps_ones : (beside old new at new_port check : ℕ) (part : List ℕ) → 0 < beside → old < 4294967296 → AreBytes part →
    check % 2 ≡ 0 → at % 2 ≡ 0 → check ≢ at → check + 2 ≤ length part → at + 2 ≤ length part →
    folded (beside + (old / 65536 + old % 65536) + word_sum part) ≡ 65535 →
    (moved : ℕ) → moved ≡ moved_sum (word part check) old new (word part at) new_port →
    folded (beside + (new / 65536 + new % 65536) + word_sum (put_word check (if moved == 0 then 65535 else moved) (put_word at new_port part))) ≡ 65535
part_keeps_ones beside old new at new_port check part some o bytes even even_too apart fits fits_too full moved is =
    let written : ℕ = if moved == 0 then 65535 else moved in
    let rest : ℕ = beside + (new / 65536 + new % 65536) + (word_sum part - (word part check + word part at)) + new_port in
    let plain : folded (beside + (new / 65536 + new % 65536) + word_sum (put_word check moved (put_word at new_port part))) ≡ 65535 =
    rw is (part_keeps beside old new at new_port check part some o bytes even even_too apart fits fits_too full) in
    let as_rest : rest + moved ≡ beside + (new / 65536 + new % 65536) + word_sum (put_word check moved (put_word at new_port part)) =
    omega (arith, part_rest check at part even even_too apart fits fits_too moved new_port) in
    let same : beside + (new / 65536 + new % 65536) + word_sum (put_word check written (put_word at new_port part)) ≡ rest + written =
    omega (arith, part_rest check at part even even_too apart fits fits_too written new_port) in
    ap folded same ∙ ones_keep rest moved (ap folded as_rest ∙ plain)
