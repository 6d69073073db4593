-- The sum of a list's words, of parts of it, and after a word at an even place has changed.
use Rattle.std.proofs.Common.{◌≡◌, ℕ, ◌+◌, ◌*◌, ◌/◌, ◌%◌, ◌≤◌, List, [], ◌∷◌, ◌++◌, length, get_or, take, drop, sym, ap, arith, zero-add, length-append, ◌∙◌}
use Rattle.std.proofs.Common.{◌<◌, ◌≢◌, ⊎_elim, refl, length-drop}
use Rattle.std.proofs.lemmas.Bool.{cases_lt}
use Rattle.std.proofs.lemmas.List.{take-append-drop, length-take-le, drop_more, drop-drop, get_or-drop}
use Rattle.lvs_sum.proofs.Puts.{put, length_put, get_or_put_before, get_or_put_after}
use Rattle.lvs_sum.specs.Sums.{word_sum}

-- the words of a front of even length, and those after it
pub word_sum-append : (xs ys : List ℕ) → length xs % 2 ≡ 0 → word_sum (xs ++ ys) ≡ word_sum xs + word_sum ys
word_sum-append [] ys even = sym (zero-add (word_sum ys))
word_sum-append (x ∷ []) ys even = absurd (omega (arith, even))
word_sum-append (high ∷ low ∷ xs) ys even = omega (arith, word_sum-append xs ys (omega (arith, even)))

-- the words before an even place, the word at it, and the words after it
pub word_sum_at : (at : ℕ) (bytes : List ℕ) → at % 2 ≡ 0 → at + 2 ≤ length bytes → word_sum bytes ≡ word_sum (take at bytes) + (256 * get_or bytes at 0 + get_or bytes (at + 1) 0) + word_sum (drop (at + 2) bytes)
word_sum_at at bytes even fits =
    let front : length (take at bytes) ≡ at = length-take-le at bytes (omega arith) in
    let first : drop at bytes ≡ get_or bytes at 0 ∷ drop (at + 1) bytes = drop_more bytes at 0 (omega arith) in
    let second : drop (at + 1) bytes ≡ get_or bytes (at + 1) 0 ∷ drop (at + 1 + 1) bytes = drop_more bytes (at + 1) 0 (omega arith) in
    let two : at + 1 + 1 ≡ at + 2 = omega arith in
    let rest : drop at bytes ≡ get_or bytes at 0 ∷ get_or bytes (at + 1) 0 ∷ drop (at + 2) bytes = first ∙ ap (λ (xs : List ℕ). get_or bytes at 0 ∷ xs) (second ∙ ap (λ (n : ℕ). get_or bytes (at + 1) 0 ∷ drop n bytes) two) in
    let whole : word_sum (take at bytes ++ drop at bytes) ≡ word_sum (take at bytes) + word_sum (drop at bytes) = word_sum-append (take at bytes) (drop at bytes) (rw front even) in
    let same : word_sum bytes ≡ word_sum (take at bytes ++ drop at bytes) = ap word_sum (sym (take-append-drop at bytes)) in
    omega (arith, same, whole, ap word_sum rest)

-- the number of two bytes
abbrev pub word : List ℕ → ℕ → ℕ
word bytes at = 256 * get_or bytes at 0 + get_or bytes (at + 1) 0

-- a number put at a place as two bytes, and as four
abbrev pub put_word : ℕ → ℕ → List ℕ → List ℕ
put_word at n bytes = put at 2 (n / 256 ∷ n % 256 ∷ []) bytes

abbrev pub put_number : ℕ → ℕ → List ℕ → List ℕ
put_number at n bytes = put at 4 (n / 65536 / 256 ∷ n / 65536 % 256 ∷ n % 65536 / 256 ∷ n % 65536 % 256 ∷ []) bytes

-- the sum after words at an even place have become others
word_sum-put : (at k : ℕ) (w bytes : List ℕ) → at % 2 ≡ 0 → k % 2 ≡ 0 → length w ≡ k → at + k ≤ length bytes → word_sum (put at k w bytes) ≡ word_sum (take at bytes) + word_sum w + word_sum (drop (at + k) bytes)
word_sum-put at k w bytes even even_too e fits =
    let front : length (take at bytes) ≡ at = length-take-le at bytes (omega arith) in
    let longer : length (take at bytes ++ w) ≡ at + k = omega (arith, length-append (take at bytes) w, front) in
    let outer : word_sum (put at k w bytes) ≡ word_sum (take at bytes ++ w) + word_sum (drop (at + k) bytes) = word_sum-append (take at bytes ++ w) (drop (at + k) bytes) (omega (arith, longer)) in
    let inner : word_sum (take at bytes ++ w) ≡ word_sum (take at bytes) + word_sum w = word_sum-append (take at bytes) w (rw front even) in
    omega (arith, outer, inner)

pub word_sum-put_word : (at new : ℕ) (bytes : List ℕ) → at % 2 ≡ 0 → at + 2 ≤ length bytes → word_sum (put_word at new bytes) + word bytes at ≡ word_sum bytes + new
word_sum-put_word at new bytes even fits =
    omega (arith, word_sum-put at 2 (new / 256 ∷ new % 256 ∷ []) bytes even refl refl fits, word_sum_at at bytes even fits)

pub word_sum-put_number : (at new : ℕ) (bytes : List ℕ) → at % 2 ≡ 0 → at + 4 ≤ length bytes → word_sum (put_number at new bytes) + (word bytes at + word bytes (at + 2)) ≡ word_sum bytes + (new / 65536 + new % 65536)
word_sum-put_number at new bytes even fits =
    let w : List ℕ = new / 65536 / 256 ∷ new / 65536 % 256 ∷ new % 65536 / 256 ∷ new % 65536 % 256 ∷ [] in
    let low : word_sum (drop (at + 2) bytes) ≡ word_sum (take 0 (drop (at + 2) bytes)) + word (drop (at + 2) bytes) 0 + word_sum (drop 2 (drop (at + 2) bytes)) = word_sum_at 0 (drop (at + 2) bytes) refl (omega (arith, length-drop (at + 2) bytes)) in
    let high_byte : get_or (drop (at + 2) bytes) 0 0 ≡ get_or bytes (at + 2) 0 = grind (arith, get_or-drop) in
    let low_byte : get_or (drop (at + 2) bytes) 1 0 ≡ get_or bytes (at + 2 + 1) 0 = grind (arith, get_or-drop) in
    let four : at + 2 + 2 ≡ at + 4 = omega arith in
    let rest : drop 2 (drop (at + 2) bytes) ≡ drop (at + 4) bytes = drop-drop 2 (at + 2) bytes ∙ ap (λ (n : ℕ). drop n bytes) four in
    omega (arith, word_sum-put at 4 w bytes even refl refl fits, word_sum_at at bytes even (omega arith), low, high_byte, low_byte, ap word_sum rest)

-- a word that is apart from the place of a change stays
pub word-put_word : (at new other : ℕ) (bytes : List ℕ) → at + 2 ≤ length bytes → at % 2 ≡ 0 → other % 2 ≡ 0 → other ≢ at → word (put_word at new bytes) other ≡ word bytes other
word-put_word at new other bytes fits even even_too apart =
    ⊎_elim
    (λ (before : other < at). let far : other + 1 < at = omega arith in omega (arith, get_or_put_before at 2 (new / 256 ∷ new % 256 ∷ []) bytes other 0 fits before, get_or_put_before at 2 (new / 256 ∷ new % 256 ∷ []) bytes (other + 1) 0 fits far))
    (λ (after : at ≤ other). let far : at + 2 ≤ other = omega arith in omega (arith, get_or_put_after at 2 (new / 256 ∷ new % 256 ∷ []) bytes other 0 refl fits far, get_or_put_after at 2 (new / 256 ∷ new % 256 ∷ []) bytes (other + 1) 0 refl fits (omega arith)))
    (cases_lt other at)

pub word-put_before : (at k other : ℕ) (w bytes : List ℕ) → at + k ≤ length bytes → other + 2 ≤ at → word (put at k w bytes) other ≡ word bytes other
word-put_before at k other w bytes fits before =
    omega (arith, get_or_put_before at k w bytes other 0 fits (omega arith), get_or_put_before at k w bytes (other + 1) 0 fits (omega arith))

-- the sum after two words that are apart have become others
pub word_sum-two_puts : (check sum at new : ℕ) (bytes : List ℕ) → check % 2 ≡ 0 → at % 2 ≡ 0 → check ≢ at → check + 2 ≤ length bytes → at + 2 ≤ length bytes →
    word_sum (put_word check sum (put_word at new bytes)) + (word bytes check + word bytes at) ≡ word_sum bytes + (sum + new)
word_sum-two_puts check sum at new bytes even even_too apart fits fits_too =
    let as_long : length (put_word at new bytes) ≡ length bytes = length_put at 2 (new / 256 ∷ new % 256 ∷ []) bytes refl fits_too in
    omega (
      arith,
      word_sum-put_word at new bytes even_too fits_too,
      word_sum-put_word check sum (put_word at new bytes) even (omega (arith, as_long)),
      word-put_word at new check bytes fits_too even_too even apart,
    )

-- two words that are apart are no more than the sum
pub two_words_le : (check at : ℕ) (bytes : List ℕ) → check % 2 ≡ 0 → at % 2 ≡ 0 → check ≢ at → check + 2 ≤ length bytes → at + 2 ≤ length bytes →
    word bytes check + word bytes at ≤ word_sum bytes
two_words_le check at bytes even even_too apart fits fits_too = omega (arith, word_sum-two_puts check 0 at 0 bytes even even_too apart fits fits_too)

-- the sum after a number, and a word before it, have become others
pub word_sum-word_number : (check sum at new : ℕ) (bytes : List ℕ) → check % 2 ≡ 0 → at % 2 ≡ 0 → check + 2 ≤ at → at + 4 ≤ length bytes →
    word_sum (put_word check sum (put_number at new bytes)) + (word bytes check + (word bytes at + word bytes (at + 2))) ≡ word_sum bytes + (sum + (new / 65536 + new % 65536))
word_sum-word_number check sum at new bytes even even_too before fits =
    let w : List ℕ = new / 65536 / 256 ∷ new / 65536 % 256 ∷ new % 65536 / 256 ∷ new % 65536 % 256 ∷ [] in
    let as_long : length (put_number at new bytes) ≡ length bytes = length_put at 4 w bytes refl fits in
    omega (
      arith,
      word_sum-put_number at new bytes even_too fits,
      word_sum-put_word check sum (put_number at new bytes) even (omega (arith, as_long)),
      word-put_before at 4 check w bytes fits before,
    )
