-- A number that is printed is read.
use Rattle.std.proofs.Common.{◌≡◌, ℕ, ◌<◌, ◌≤◌, ◌^◌, true, List, [], ◌∷◌, length, get_or, Some, refl, ap, arith, lit<, decimal, rules, zero, suc}
use Rattle.std.specs.List.{list_all}
use Rattle.std.specs.Char.{is_ascii_digit}
use Rattle.std.proofs.lemmas.Str.Parse.{IsNumeralModel, numerals_by_fold}
use Rattle.std.proofs.lemmas.Fmt.{digits_decimal, digits_value-decimal, decimal_nonempty, decimal_digit, first_decimal}
use Rattle.std.proofs.lemmas.Bool.Decides.{nat_tests}
use Rattle.lvs_model.specs.Decimals.{value_after}
use Rattle.lvs_model.specs.ReportReading.{is_plain, plain_number}

own : IsNumeralModel (λ ds. list_all is_ascii_digit ds ≡ true) (value_after 0)
own = numerals_by_fold _ (search rules) value_after (search rules)

pub are_digits : (n : ℕ) → n < 2 ^ 64 → list_all is_ascii_digit (decimal n) ≡ true
are_digits n fits = digits_decimal own n fits

begins : (text : List ℕ) → 0 < length text → (get_or text 0 0 ≡ 48 → length text ≡ 1) → is_plain text ≡ true
begins [] some lead = absurd (omega arith)
begins (c ∷ []) some lead = refl
begins (c ∷ d ∷ ds) some lead =
    let other : c ≡ 48 → ⊥ = λ is. (let one = lead is in omega arith) in
    grind (arith, nat_tests)

lead_decimal : (n : ℕ) → n < 2 ^ 64 → get_or (decimal n) 0 0 ≡ 48 → length (decimal n) ≡ 1
lead_decimal zero fits is = ap length (decimal_digit 0 (lit< tt))
lead_decimal (suc n) fits is = let more = first_decimal (suc n) (omega arith) fits in absurd (omega arith)

pub plain_decimal : (limit n : ℕ) → n ≤ limit → n < 2 ^ 64 → plain_number limit (decimal n) ≡ Some n
plain_decimal limit n within fits =
    let digits = are_digits n fits in
    let value = digits_value-decimal own n fits in
    let well = begins (decimal n) (decimal_nonempty n fits) (lead_decimal n fits) in
    rw (digits, well, value) (grind (arith, nat_tests))
