-- The first line of an ICMP error's listing is read as what it was printed of.
use Rattle.std.proofs.Common.{◌≡◌, ℕ, zero, suc, ◌+◌, ◌*◌, ◌/◌, ◌%◌, ◌<◌, Bool, true, not, ◌&&◌, ◌==◌, cond, nat_lt, List, [], ◌∷◌, ◌++◌, length, get_or, Option, Some, None, refl, ap, ◌∙◌, arith, lit<, codes}
use Rattle.std.specs.List.{list_all}
use Rattle.std.specs.Option.{option_map}
use Rattle.std.proofs.lemmas.List.{length-append}
use Rattle.std.proofs.lemmas.Bool.Decides.{nat_tests}
use Rattle.hex.specs.Hex.{IsBytes, lower_digits, encode_with, encode_lower, decode_of}
use Rattle.hex.proofs.HexLemmas.{length-encode_with, decode_of-encode_lower}
use Rattle.lvs_types.specs.declared.book.Shown.TheVariants as shown
use Rattle.lvs_types.specs.declared.report.ReportLine.{ReportLine}
use Rattle.lvs_model.specs.ReportReading.{LineRead, is_lower_digit, bytes_decoded, lower_bytes, or_else, act_line_of, listing_line_of, outside_listing, report_line_read}
use Rattle.lvs_model.specs.ReportLines.{is_byte, are_some_bytes}
use Rattle.lvs_report.proofs.Avoids.{and_true, first_of_and, rest_of_and}

digit_at : (table : List ℕ) (i : ℕ) → list_all is_lower_digit table ≡ true → i < length table → is_lower_digit (get_or table i 0) ≡ true
digit_at [] i all small = absurd (omega arith)
digit_at (x ∷ xs) zero all small = first_of_and _ _ all
digit_at (x ∷ xs) (suc i) all small = digit_at xs i (rest_of_and _ _ all) (omega arith)

small_byte : (b : ℕ) → is_byte b ≡ true → b < 256
small_byte b is = grind (arith, nat_tests)

-- the digits that are printed are lower-case ones
digits_of : (bytes : List ℕ) → list_all is_byte bytes ≡ true → list_all is_lower_digit (encode_lower bytes) ≡ true
unfolding encode_with
digits_of [] all = refl
digits_of (b ∷ bytes) all =
    let small : b < 256 = small_byte b (first_of_and _ _ all) in
    let high : b / 16 < 16 = omega arith in
    let low : b % 16 < 16 = omega arith in
    and_true _ _ (digit_at lower_digits (b / 16) refl high) (and_true _ _ (digit_at lower_digits (b % 16) refl low) (digits_of bytes (rest_of_and _ _ all)))

all_bytes : (bytes : List ℕ) → list_all is_byte bytes ≡ true → IsBytes bytes
all_bytes [] all i = lit< tt
all_bytes (b ∷ bytes) all zero = small_byte b (first_of_and _ _ all)
all_bytes (b ∷ bytes) all (suc i) = all_bytes bytes (rest_of_and _ _ all) i

twice_some : (n m : ℕ) → not (n == 0) ≡ true → m ≡ 2 * n → not (m == 0) ≡ true
twice_some n m some twice = grind (arith, nat_tests)

-- the bytes of the digits that are printed of bytes
lower_own : (bytes : List ℕ) → are_some_bytes bytes ≡ true → lower_bytes (encode_lower bytes) ≡ Some bytes
lower_own bytes is =
    let all : list_all is_byte bytes ≡ true = rest_of_and _ _ is in
    let some : not (length (encode_lower bytes) == 0) ≡ true = twice_some (length bytes) (length (encode_lower bytes)) (first_of_and _ _ is) (length-encode_with lower_digits bytes) in
    let test : (list_all is_lower_digit (encode_lower bytes) && not (length (encode_lower bytes) == 0)) ≡ true = and_true _ _ (digits_of bytes all) some in
    ap (λ (t : Bool). cond t (bytes_decoded (decode_of (encode_lower bytes))) None) test ∙ ap bytes_decoded (decode_of-encode_lower bytes (all_bytes bytes all))

-- a first line that isn't an act's, since no number stands before its blank
no_act_in : (x : List ℕ) → act_line_of (codes "icmp in " ++ x) ≡ None
no_act_in x =
    let long : length (codes "icmp in " ++ x) ≡ 8 + length x = length-append (codes "icmp in ") x in
    let room : nat_lt 4 (length (codes "icmp in " ++ x)) ≡ true = grind (arith, nat_tests) in
    rw room refl

no_act_out : (x : List ℕ) → act_line_of (codes "icmp out " ++ x) ≡ None
no_act_out x =
    let long : length (codes "icmp out " ++ x) ≡ 9 + length x = length-append (codes "icmp out ") x in
    let room : nat_lt 4 (length (codes "icmp out " ++ x)) ≡ true = grind (arith, nat_tests) in
    rw room refl

pub inward_own : (bytes : List ℕ) → are_some_bytes bytes ≡ true → report_line_read None (codes "icmp in " ++ encode_lower bytes) ≡ Some (record { whole = []; open_listing = Some (record { kind = shown.IcmpIn bytes; text = [] }) })
inward_own bytes is =
    let text : List ℕ = codes "icmp in " ++ encode_lower bytes in
    ap (λ (act : Option ReportLine). option_map outside_listing (or_else act (listing_line_of text))) (no_act_in (encode_lower bytes)) ∙ rw (lower_own bytes is) refl

pub outward_own : (bytes : List ℕ) → are_some_bytes bytes ≡ true → report_line_read None (codes "icmp out " ++ encode_lower bytes) ≡ Some (record { whole = []; open_listing = Some (record { kind = shown.IcmpOut bytes; text = [] }) })
outward_own bytes is =
    let text : List ℕ = codes "icmp out " ++ encode_lower bytes in
    ap (λ (act : Option ReportLine). option_map outside_listing (or_else act (listing_line_of text))) (no_act_out (encode_lower bytes)) ∙ rw (lower_own bytes is) refl
