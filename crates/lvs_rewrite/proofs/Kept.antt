-- The checksums of a packet stay right where an address and a port are changed, and both sums with them.
use Rattle.std.proofs.Common.{◌≡◌, ◌≢◌, ℕ, ◌+◌, ◌-◌, ◌*◌, ◌/◌, ◌%◌, ◌<◌, ◌≤◌, ⊎_elim, Bool, true, false, if◌then◌else◌, ◌==◌, List, length, get_or, take, drop, refl, sym, ap, arith, ◌∙◌}
use Rattle.std.proofs.lemmas.Bool.{cases_lt}
use Rattle.std.proofs.lemmas.Bool.Decides.{nat_tests}
use Rattle.std.proofs.lemmas.List.{get_or-take, get_or-drop, get_or_past, length-take-le}
use Rattle.std.proofs.Common.{length-drop}
use Rattle.lvs_sum.specs.Sums.{folded, word_sum, update32, is_valid_header}
use Rattle.lvs_sum.proofs.Folding.{test_full, full_test}
use Rattle.lvs_sum.proofs.WordSums.{word, put_word, put_number}
use Rattle.lvs_sum.proofs.Keeping.{AreBytes, moved_sum, header_keeps, part_keeps, part_keeps_ones}
use Rattle.lvs_model.specs.Fields.{word_at, number_at}
use Rattle.lvs_model.specs.Rewriting.{udp_sum, part_sum}
use Rattle.lvs_rewrite.proofs.Changes.{Places, changed, header_changed, part_changed}

word_take : (end at : ℕ) (bytes : List ℕ) → at + 2 ≤ end → word (take end bytes) at ≡ word_at bytes at
word_take end at bytes fits = omega (arith, get_or-take end bytes at 0 (omega arith), get_or-take end bytes (at + 1) 0 (omega arith))

word_drop : (end at : ℕ) (bytes : List ℕ) → word (drop end bytes) at ≡ word_at bytes (end + at)
word_drop end at bytes =
    let next : end + (at + 1) ≡ end + at + 1 = omega arith in
    let low : get_or (drop end bytes) (at + 1) 0 ≡ get_or bytes (end + at + 1) 0 = get_or-drop end bytes (at + 1) 0 ∙ ap (λ (i : ℕ). get_or bytes i 0) next in
    omega (arith, get_or-drop end bytes at 0, low)

bytes_take : (end : ℕ) (bytes : List ℕ) → end ≤ length bytes → AreBytes bytes → AreBytes (take end bytes)
bytes_take end bytes fits are k =
    ⊎_elim
    (λ (before : k < end). omega (arith, get_or-take end bytes k 0 before, are k))
    (λ (after : end ≤ k). omega (arith, get_or_past (take end bytes) k 0 (omega (arith, length-take-le end bytes fits))))
    (cases_lt k end)

bytes_drop : (end : ℕ) (bytes : List ℕ) → AreBytes bytes → AreBytes (drop end bytes)
bytes_drop end bytes are k = omega (arith, get_or-drop end bytes k 0, are (end + k))

-- a right sum of the header stays right
pub header_kept : (end address port check old new new_port sum : ℕ) (bytes : List ℕ) → Places (length bytes) end address port check → AreBytes bytes → 0 < word_at bytes 0 → number_at bytes address ≡ old
    → is_valid_header (take end bytes) ≡ true → is_valid_header (take end (changed end address port check new new_port (update32 (word_at bytes 10) old new) sum bytes)) ≡ true
header_kept end address port check old new new_port sum bytes places are some is_old valid =
    let header : List ℕ = take end bytes in
    let now : List ℕ = take end (changed end address port check new new_port (update32 (word_at bytes 10) old new) sum bytes) in
    let as_long : length header ≡ end = length-take-le end bytes (omega arith) in
    let first : word header 0 ≡ word_at bytes 0 = word_take end 0 bytes (omega arith) in
    let field : word header 10 ≡ word_at bytes 10 = word_take end 10 bytes (omega arith) in
    let high : word header address ≡ word_at bytes address = word_take end address bytes (omega arith) in
    let low : word header (address + 2) ≡ word_at bytes (address + 2) = word_take end (address + 2) bytes (omega arith) in
    let before : 65536 * word header address + word header (address + 2) ≡ old = omega (arith, high, low, is_old) in
    let kept = header_keeps address new header (omega arith) (omega arith) (omega (arith, as_long)) (bytes_take end bytes (omega arith) are) (omega (arith, first)) (test_full (word_sum header) valid) in
    let updated : update32 (word_at bytes 10) old new ≡ update32 (word header 10) (65536 * word header address + word header (address + 2)) new = ap (λ (n : ℕ). update32 n old new) (sym field) ∙ ap (λ (n : ℕ). update32 (word header 10) n new) (sym before) in
    let same : now ≡ put_word 10 (update32 (word header 10) (65536 * word header address + word header (address + 2)) new) (put_number address new header) =
    header_changed end address port check new new_port (update32 (word_at bytes 10) old new) sum bytes places ∙ ap (λ (n : ℕ). put_word 10 n (put_number address new header)) updated in
    full_test (word_sum now) (ap (λ (l : List ℕ). folded (word_sum l)) same ∙ kept)

udp_written : (field moved : ℕ) → field ≢ 0 → udp_sum field moved ≡ (if moved == 0 then 65535 else moved)
udp_written field moved some = grind (arith, nat_tests)

-- a right sum of the part stays right, beside what doesn't change in the pseudo header
pub part_kept : (tcp : Bool) (end address port check old new old_port new_port sum beside : ℕ) (bytes : List ℕ) → Places (length bytes) end address port check → AreBytes bytes → 0 < beside → old < 4294967296
    → word_at bytes (end + port) ≡ old_port → (tcp ≡ false → word_at bytes (end + check) ≢ 0)
    → folded (beside + (old / 65536 + old % 65536) + word_sum (drop end bytes)) ≡ 65535
    → folded (beside + (new / 65536 + new % 65536) + word_sum (drop end (changed end address port check new new_port sum (part_sum tcp (word_at bytes (end + check)) (moved_sum (word_at bytes (end + check)) old new old_port new_port)) bytes))) ≡ 65535
part_kept true end address port check old new old_port new_port sum beside bytes places are some small is_port field full =
    let part : List ℕ = drop end bytes in
    let as_long : length part ≡ length bytes - end = length-drop end bytes in
    let checksum : word part check ≡ word_at bytes (end + check) = word_drop end check bytes in
    let ports : word part port ≡ old_port = word_drop end port bytes ∙ is_port in
    let kept = part_keeps beside old new port new_port check part some small (bytes_drop end bytes are) (omega arith) (omega arith) (omega arith) (omega (arith, as_long)) (omega (arith, as_long)) full in
    let written : moved_sum (word_at bytes (end + check)) old new old_port new_port ≡ moved_sum (word part check) old new (word part port) new_port = ap (λ (n : ℕ). moved_sum n old new old_port new_port) (sym checksum) ∙ ap (λ (n : ℕ). moved_sum (word part check) old new n new_port) (sym ports) in
    let same = part_changed end address port check new new_port sum (moved_sum (word_at bytes (end + check)) old new old_port new_port) bytes places ∙ ap (λ (n : ℕ). put_word check n (put_word port new_port part)) written in
    ap (λ (l : List ℕ). folded (beside + (new / 65536 + new % 65536) + word_sum l)) same ∙ kept
part_kept false end address port check old new old_port new_port sum beside bytes places are some small is_port field full =
    let part : List ℕ = drop end bytes in
    let moved : ℕ = moved_sum (word_at bytes (end + check)) old new old_port new_port in
    let as_long : length part ≡ length bytes - end = length-drop end bytes in
    let checksum : word part check ≡ word_at bytes (end + check) = word_drop end check bytes in
    let ports : word part port ≡ old_port = word_drop end port bytes ∙ is_port in
    let is_moved : moved ≡ moved_sum (word part check) old new (word part port) new_port = ap (λ (n : ℕ). moved_sum n old new old_port new_port) (sym checksum) ∙ ap (λ (n : ℕ). moved_sum (word part check) old new n new_port) (sym ports) in
    let kept = part_keeps_ones beside old new port new_port check part some small (bytes_drop end bytes are) (omega arith) (omega arith) (omega arith) (omega (arith, as_long)) (omega (arith, as_long)) full moved is_moved in
    let written : udp_sum (word_at bytes (end + check)) moved ≡ (if moved == 0 then 65535 else moved) = udp_written (word_at bytes (end + check)) moved (field refl) in
    let same = part_changed end address port check new new_port sum (udp_sum (word_at bytes (end + check)) moved) bytes places ∙ ap (λ (n : ℕ). put_word check n (put_word port new_port part)) written in
    ap (λ (l : List ℕ). folded (beside + (new / 65536 + new % 65536) + word_sum l)) same ∙ kept
