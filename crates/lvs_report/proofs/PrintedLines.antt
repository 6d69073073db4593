-- The lines of heads and acts are read as what they were printed of.
use Rattle.std.proofs.Common.{◌≡◌, ℕ, ◌+◌, ◌<◌, ◌≤◌, ◌^◌, Bool, true, false, not, ◌==◌, cond, List, [], ◌∷◌, ◌++◌, length, take, drop, Option, Some, None, refl, ◌∙◌, ap, arith, lit<, decimal, nat_lt, codes, suc}
use Rattle.std.specs.List.{list_all, position_or_len}
use Rattle.std.specs.Char.{is_ascii_digit}
use Rattle.std.proofs.Math.Seq.{take-append_seam, drop-append-add}
use Rattle.std.proofs.lemmas.List.{length-append}
use Rattle.std.proofs.lemmas.Bool.Decides.{nat_tests}
use Rattle.std.proofs.lemmas.Fmt.{decimal_nonempty}
use Rattle.lvs_types.specs.declared.report.ReportLine.TheVariants as line
use Rattle.lvs_model.specs.Decimals.{cut_at}
use Rattle.lvs_model.specs.ReportReading.{number_up_to, behind, filled, head_line_of, act_line_of, line_of, greatest_long, greatest_int}
use Rattle.lvs_report.proofs.Avoids.{avoids, decimal_avoids, first_of_and, rest_of_and}
use Rattle.lvs_report.proofs.Numerals.{are_digits, plain_decimal}

-- a text is cut at the byte behind a word without it

place_by : (byte b n m : ℕ) (same : Bool) → not same ≡ true → n ≡ m → cond (not same) (1 + n) 0 ≡ suc m
place_by byte b n m true other is = absurd cc
place_by byte b n m false other is = omega arith

place_of : (byte : ℕ) (word rest : List ℕ) → (byte == byte) ≡ true → avoids byte word ≡ true → position_or_len (λ (b : ℕ). b == byte) (word ++ byte ∷ rest) ≡ length word
place_of byte [] rest same well = ap (λ (b : Bool). cond (not b) (1 + position_or_len (λ (b : ℕ). b == byte) rest) 0) same
place_of byte (c ∷ cs) rest same well =
    place_by byte c (position_or_len (λ (b : ℕ). b == byte) (cs ++ byte ∷ rest)) (length cs) (c == byte) (first_of_and _ _ well) (place_of byte cs rest same (rest_of_and _ _ well))

abbrev Cut : Type 0
Cut = Option (List ℕ × List ℕ)

abbrev cut_of : ℕ → List ℕ → Cut
cut_of n text = cond (nat_lt n (length text)) (Some (take n text, drop (n + 1) text)) None

abbrev parts : List ℕ → List ℕ → Cut
parts prefix after = Some (prefix, after)

cut_by_length : (byte : ℕ) (word rest : List ℕ) → cut_of (length word) (word ++ byte ∷ rest) ≡ parts word rest
cut_by_length byte word rest =
    let long : length (word ++ byte ∷ rest) ≡ length word + length (byte ∷ rest) = length-append word (byte ∷ rest) in
    let before : nat_lt (length word) (length (word ++ byte ∷ rest)) ≡ true = grind (arith, nat_tests) in
    let prefix : take (length word) (word ++ byte ∷ rest) ≡ word = take-append_seam word (byte ∷ rest) in
    let after : drop (length word + 1) (word ++ byte ∷ rest) ≡ rest = drop-append-add word (byte ∷ rest) 1 in
    rw (before, prefix, after) refl

cut_own : (byte : ℕ) (word rest : List ℕ) → (byte == byte) ≡ true → avoids byte word ≡ true → cut_at byte (word ++ byte ∷ rest) ≡ parts word rest
cut_own byte word rest same well = ap (λ (n : ℕ). cut_of n (word ++ byte ∷ rest)) (place_of byte word rest same well) ∙ cut_by_length byte word rest

abbrev Numbered : Type 0
Numbered = Option (ℕ × List ℕ)

abbrev numbered : ℕ → List ℕ → Numbered
numbered n rest = Some (n, rest)

-- a number that is printed is read up to the byte behind it
pub number_own : (byte limit n : ℕ) (rest : List ℕ) → (byte == byte) ≡ true → byte < 48 → n ≤ limit → n < 2 ^ 64 → number_up_to byte limit (decimal n ++ byte ∷ rest) ≡ numbered n rest
number_own byte limit n rest same low within fits =
    let cut = cut_own byte (decimal n) rest same (decimal_avoids byte n low) in
    let number = plain_decimal limit n within fits in
    rw (cut, number) refl

-- heads

abbrev pub head_line : ℕ → ℕ → ℕ → ℕ → List ℕ
head_line number moment workers buckets =
    codes "round " ++ (decimal number ++ (codes " at " ++ (decimal moment ++ (codes " workers " ++ (decimal workers ++ (codes " buckets " ++ decimal buckets))))))

pub head_own : (number moment workers buckets : ℕ) → number < 2 ^ 64 → moment < 2 ^ 64 → workers < 2 ^ 32 → buckets < 2 ^ 32 → head_line_of (head_line number moment workers buckets) ≡ Some (line.Head number moment workers buckets)
head_own number moment workers buckets n m w b =
    let last = codes "buckets " ++ decimal buckets in
    let third = codes "workers " ++ (decimal workers ++ 32 ∷ last) in
    let second = codes "at " ++ (decimal moment ++ 32 ∷ third) in
    let number_is = number_own 32 greatest_long number second refl (lit< tt) (omega arith) n in
    let moment_is = number_own 32 greatest_long moment third refl (lit< tt) (omega arith) m in
    let workers_is = number_own 32 greatest_int workers last refl (lit< tt) (omega arith) (omega arith) in
    let buckets_is = plain_decimal greatest_int buckets (omega arith) (omega arith) in
    rw (number_is, moment_is, workers_is, buckets_is) refl

-- acts

abbrev pub act_body : ℕ → ℕ → ℕ → List ℕ → List ℕ
act_body place actor number reply = decimal place ++ 32 ∷ (decimal actor ++ 46 ∷ (decimal number ++ 32 ∷ reply))

act_own : (place actor number : ℕ) (reply : List ℕ) → place < 2 ^ 64 → actor < 2 ^ 32 → number < 2 ^ 64 → filled reply ≡ Some reply → act_line_of (act_body place actor number reply) ≡ Some (line.Act place actor number reply)
act_own place actor number reply p a n full =
    let second = decimal number ++ 32 ∷ reply in
    let first = decimal actor ++ 46 ∷ second in
    let place_is = number_own 32 greatest_long place first refl (lit< tt) (omega arith) p in
    let actor_is = number_own 46 greatest_int actor second refl (lit< tt) (omega arith) (omega arith) in
    let number_is = number_own 32 greatest_long number reply refl (lit< tt) (omega arith) n in
    rw (place_is, actor_is, number_is, full) refl

-- what begins with a digit is no head
no_head : (text rest : List ℕ) → list_all is_ascii_digit text ≡ true → 0 < length text → behind (codes "round ") (text ++ rest) ≡ None
no_head [] rest digits some = absurd (omega arith)
no_head (c ∷ cs) rest digits some =
    let digit : is_ascii_digit c ≡ true = first_of_and _ _ digits in
    let other : (c == 114) ≡ false = grind (arith, nat_tests) in
    rw other refl

pub act_line_own : (place actor number : ℕ) (reply : List ℕ) → place < 2 ^ 64 → actor < 2 ^ 32 → number < 2 ^ 64 → filled reply ≡ Some reply → line_of (act_body place actor number reply) ≡ Some (line.Act place actor number reply)
act_line_own place actor number reply p a n full =
    let behind_is = no_head (decimal place) (32 ∷ (decimal actor ++ 46 ∷ (decimal number ++ 32 ∷ reply))) (are_digits place p) (decimal_nonempty place p) in
    let act_is = act_own place actor number reply p a n full in
    rw (behind_is, act_is) refl

pub head_line_own : (number moment workers buckets : ℕ) → number < 2 ^ 64 → moment < 2 ^ 64 → workers < 2 ^ 32 → buckets < 2 ^ 32 → line_of (head_line number moment workers buckets) ≡ Some (line.Head number moment workers buckets)
head_line_own number moment workers buckets n m w b = rw (head_own number moment workers buckets n m w b) refl
