-- The message about another embedded packet: its checksum is right, and it has that packet.
use Rattle.std.proofs.Common.{◌≡◌, ℕ, ◌+◌, ◌≤◌, List, ◌++◌, length, take, drop, refl, sym, ap, ◌∙◌, arith, length-append}
use Rattle.std.proofs.lemmas.List.{length-take-le}
use Rattle.std.proofs.Math.Seq.{drop-append_seam}
use Rattle.lvs_sum.specs.Sums.{word_sum, complement, fold}
use Rattle.lvs_sum.proofs.Folding.{folded_small, folded_split, full_of}
use Rattle.lvs_sum.proofs.Puts.{take_put_before, drop_put_after}
use Rattle.lvs_sum.proofs.WordSums.{word, word_sum-put_word}
use Rattle.lvs_model.specs.Fields.{word_bytes}
use Rattle.lvs_model.specs.Rewriting.{with_word}
use Rattle.lvs_model.specs.IcmpErrors.{with_sum, message_about, embedded_of}
use Rattle.lvs_rewrite.proofs.Changes.{length_word}

-- a word that is put over another
pub put_twice : (at n m : ℕ) (bytes : List ℕ) → at + 2 ≤ length bytes → with_word at n (with_word at m bytes) ≡ with_word at n bytes
put_twice at n m bytes fits =
    let before : take at (with_word at m bytes) ≡ take at bytes = take_put_before at at 2 (word_bytes m) bytes (omega arith) fits in
    let after : drop (at + 2) (with_word at m bytes) ≡ drop (at + 2) bytes = drop_put_after (at + 2) at 2 (word_bytes m) bytes refl (omega arith) fits in
    ap (λ (front : List ℕ). front ++ word_bytes n ++ drop (at + 2) (with_word at m bytes)) before ∙ ap (λ (rest : List ℕ). take at bytes ++ word_bytes n ++ rest) after

-- the sum of a message with its checksum is all ones
sum_right : (message : List ℕ) → 4 ≤ length message → fold (with_sum message) ≡ 65535
sum_right message fits =
    let zeroed : List ℕ = with_word 2 0 message in
    let sum : ℕ = complement (fold zeroed) in
    let split = folded_split (word_sum zeroed) in
    let small = folded_small (word_sum zeroed) in
    let before : word_sum zeroed + word message 2 ≡ word_sum message + 0 = word_sum-put_word 2 0 message refl fits in
    let after : word_sum (with_sum message) + word message 2 ≡ word_sum message + sum = word_sum-put_word 2 sum message refl fits in
    full_of (word_sum (with_sum message)) (split.0 + 1) (omega (arith, split.1, small, before, after)) (omega (arith, split.1, small, before, after))

-- the message before its checksum is put
abbrev joined : List ℕ → List ℕ → List ℕ
joined message embedded = take 8 message ++ embedded

length_front : (message : List ℕ) → 8 ≤ length message → length (take 8 message) ≡ 8
length_front message fits = length-take-le 8 message fits

length_joined : (message embedded : List ℕ) → 8 ≤ length message → length (joined message embedded) ≡ 8 + length embedded
length_joined message embedded fits = omega (arith, length-append (take 8 message) embedded, length_front message fits)

pub about_right : (message embedded : List ℕ) → 8 ≤ length message → fold (message_about message embedded) ≡ 65535
about_right message embedded fits = sum_right (joined message embedded) (omega (arith, length_joined message embedded fits))

pub length_about : (message embedded : List ℕ) → 8 ≤ length message → length (message_about message embedded) ≡ 8 + length embedded
length_about message embedded fits =
    let long : length (joined message embedded) ≡ 8 + length embedded = length_joined message embedded fits in
    length_word 2 (complement (fold (with_word 2 0 (joined message embedded)))) (joined message embedded) (omega arith) ∙ long

pub embedded_about : (message embedded : List ℕ) → 8 ≤ length message → embedded_of (message_about message embedded) ≡ embedded
embedded_about message embedded fits =
    let long : length (joined message embedded) ≡ 8 + length embedded = length_joined message embedded fits in
    let past : embedded_of (message_about message embedded) ≡ drop 8 (joined message embedded) =
    drop_put_after 8 2 2 (word_bytes (complement (fold (with_word 2 0 (joined message embedded))))) (joined message embedded) refl (omega arith) (omega arith) in
    past ∙ ap (λ (n : ℕ). drop n (joined message embedded)) (sym (length_front message fits)) ∙ drop-append_seam (take 8 message) embedded
