-- Bytes that hexadecimal digits spelled are spelled again by their lower-case digits.
use Rattle.std.proofs.Common.{◌≡◌, ℕ, zero, suc, ◌*◌, ◌/◌, ◌%◌, ◌<◌, Bool, true, false, not, ◌&&◌, ◌==◌, cond, nat_le, List, [], ◌∷◌, length, get_or, map, drop, None, Result, Ok, Err, refl, ap, ◌∙◌, arith}
use Rattle.std.specs.List.{list_all}
use Rattle.std.specs.Char.{is_ascii_alphabetic}
use Rattle.std.proofs.lemmas.Bool.Decides.{nat_tests}
use Rattle.hex.specs.Hex.{IsBytes, lower_digits, encode_with, encode_lower, decode_of}
use Rattle.hex.specs.declared.error.FromHexError.{FromHexError}
use Rattle.hex.proofs.HexLemmas.{length-encode_with, decode_of-encode_lower, decode_of-ok}
use Rattle.lvs_types.specs.declared.script.ScriptCause.{ScriptCause}
use Rattle.lvs_types.specs.declared.script.ScriptCause.TheVariants as cause
use Rattle.lvs_model.specs.Decimals.{cut_at}
use Rattle.lvs_model.specs.AdminWords.{letter_word, split_word, split_assignment}
use Rattle.lvs_model.specs.Scripts.{bytes_decoded, bytes_of}
use Rattle.lvs_listing.proofs.Numerals.{both_true, first_true, second_true}
use Rattle.lvs_listing.proofs.Wording.{IsWord, is_graphic}

-- A WORD WITHOUT A DASH

dash_false : (t b : Bool) → (not t && b) ≡ true → t ≡ false
dash_false true b all = cc
dash_false false b all = refl

pub unsplit : (w : List ℕ) → list_all (λ b. not (b == 45)) w ≡ true → split_word w ≡ w ∷ []
unsplit [] all = refl
unsplit (c ∷ []) all =
    ap (λ (b : Bool). cond (b && nat_le 2 (length {A = ℕ} []) && list_all is_ascii_alphabetic []) (map letter_word []) ((c ∷ []) ∷ [])) (dash_false (c == 45) true all)
unsplit (c ∷ d ∷ cs) all =
    ap (λ (b : Bool). cond (b && nat_le 2 (length (d ∷ cs)) && list_all is_ascii_alphabetic (d ∷ cs)) (map letter_word (drop 1 (c ∷ d ∷ cs))) (split_assignment (c ∷ d ∷ cs) (cond (b && (d == 45)) (cut_at 61 (c ∷ d ∷ cs)) None))) (dash_false (c == 45) (list_all (λ b. not (b == 45)) (d ∷ cs)) all)

-- DIGITS

digit_at : (p : ℕ → Bool) (table : List ℕ) (i : ℕ) → list_all p table ≡ true → i < length table → p (get_or table i 0) ≡ true
digit_at p [] i all small = absurd (omega arith)
digit_at p (x ∷ xs) zero all small = first_true (p x) (list_all p xs) all
digit_at p (x ∷ xs) (suc i) all small = digit_at p xs i (second_true (p x) (list_all p xs) all) (omega arith)

digits_pass : (p : ℕ → Bool) → list_all p lower_digits ≡ true → (bytes : List ℕ) → IsBytes bytes → list_all p (encode_lower bytes) ≡ true
unfolding encode_with
digits_pass p all [] are = refl
digits_pass p all (b ∷ bytes) are =
    let small : b < 256 = are 0 in
    let high : b / 16 < 16 = omega arith in
    let low : b % 16 < 16 = omega arith in
    both_true (p (get_or lower_digits (b / 16) 0)) _ (digit_at p lower_digits (b / 16) all high)
    (both_true (p (get_or lower_digits (b % 16) 0)) _ (digit_at p lower_digits (b % 16) all low) (digits_pass p all bytes (λ i. are (suc i))))

-- A WORD OF BYTES

-- some bytes
pub record AreBytes (bytes : List ℕ) : Type 0 where
  pub some : (length bytes == 0) ≡ false
  pub all : IsBytes bytes

twice_some : (n m : ℕ) → (n == 0) ≡ false → m ≡ 2 * n → (m == 0) ≡ false
twice_some n m some twice = grind (arith, nat_tests)

half_some : (n m : ℕ) → (m == 0) ≡ false → m ≡ 2 * n → (n == 0) ≡ false
half_some n m some twice = grind (arith, nat_tests)

given_by : (none : Bool) (read : Result (List ℕ) FromHexError) (bytes : List ℕ) → cond none (Err cause.BadHex) (bytes_decoded read) ≡ Ok bytes → (none ≡ false) × (read ≡ Ok bytes)
given_by true read bytes e = absurd cc
given_by false (Ok other) bytes e = let same : other ≡ bytes = cc in (refl, ap Ok same)
given_by false (Err why) bytes e = absurd cc

pub bytes_given : (word bytes : List ℕ) → bytes_of word ≡ Ok bytes → AreBytes bytes
bytes_given word bytes e =
    let read = given_by (length word == 0) (decode_of word) bytes e in
    let spelled = decode_of-ok word bytes read.1 in
    record { some = half_some (length bytes) (length word) read.0 spelled.2; all = spelled.3 }

abbrev bytes_by : Bool → Result (List ℕ) ScriptCause → Result (List ℕ) ScriptCause
bytes_by none read = cond none (Err cause.BadHex) read

pub bytes_again : (bytes : List ℕ) → AreBytes bytes → bytes_of (encode_lower bytes) ≡ Ok bytes
bytes_again bytes are =
    ap (λ (b : Bool). bytes_by b (bytes_decoded (decode_of (encode_lower bytes)))) (twice_some (length bytes) (length (encode_lower bytes)) are.some (length-encode_with lower_digits bytes))
    ∙ ap bytes_decoded (decode_of-encode_lower bytes are.all)

pub hex_is_word : (bytes : List ℕ) → AreBytes bytes → IsWord (encode_lower bytes)
hex_is_word bytes are = record {
  full = ap not (twice_some (length bytes) (length (encode_lower bytes)) are.some (length-encode_with lower_digits bytes));
  graphic = digits_pass is_graphic refl bytes are.all;
  whole = unsplit (encode_lower bytes) (digits_pass (λ b. not (b == 45)) refl bytes are.all);
}
