-- Numbers and addresses are read as they are printed.
use Rattle.std.proofs.Common.{◌≡◌, ℕ, ◌+◌, ◌*◌, ◌/◌, ◌%◌, ◌^◌, ◌<◌, ◌≤◌, Bool, true, false, cond, ◌&&◌, not, ◌==◌, List, [], ◌∷◌, ◌++◌, length, suc, take, drop, Option, Some, None, refl, ◌∙◌, ap, arith, rules, lit<, nat_le, nat_lt, append_assoc}
use Rattle.std.specs.Fmt.{decimal}
use Rattle.std.specs.List.{list_all, prefix_len, position_or_len}
use Rattle.std.specs.Char.{is_ascii_digit}
use Rattle.std.proofs.lemmas.Bool.{le-leb, lt-ltb, eq-eqb}
use Rattle.std.proofs.lemmas.Bool.Decides.{nat_tests}
use Rattle.std.proofs.lemmas.List.{length-append}
use Rattle.std.proofs.lemmas.List.Folds.{list_all-append}
use Rattle.std.proofs.Math.Seq.{take-append_seam, drop-append-add}
use Rattle.std.proofs.lemmas.Fmt.{digits_decimal, digits_value-decimal, length-decimal-le, decimal_nonempty}
use Rattle.std.proofs.lemmas.Str.Parse.{IsNumeralModel, numerals_by_fold}
use Rattle.lvs_types.specs.declared.addr.Addr.{Addr}
use Rattle.lvs_model.specs.Decimals.{value_after, is_number, number_of, number_between, cut_at, addr_of, port_of, endpoint_of}
use Rattle.lvs_model.specs.Report.{addr_text}
use Rattle.lvs_model.specs.Listings.{endpoint_text}
use Rattle.lvs_lines.proofs.Splits.{cut_pair}

abbrev some_addr : ℕ → Option Addr
some_addr number = Some (record { number = number })

own : IsNumeralModel (λ ds. list_all is_ascii_digit ds ≡ true) (value_after 0)
own = numerals_by_fold _ (search rules) value_after (search rules)

pub digits_all : (n : ℕ) → n < 2 ^ 64 → list_all is_ascii_digit (decimal n) ≡ true
digits_all n small = digits_decimal own n small

number_some : (ds : List ℕ) → 0 < length ds → list_all is_ascii_digit ds ≡ true → is_number ds ≡ true
number_some [] some all = absurd (omega arith)
number_some (d ∷ ds) some all = all

pub is_number-decimal : (n : ℕ) → n < 2 ^ 64 → is_number (decimal n) ≡ true
is_number-decimal n small = number_some (decimal n) (decimal_nonempty n small) (digits_all n small)

-- where three tests pass
chosen : {X : Type 0} (a b c : Bool) (x y : X) → a ≡ true → b ≡ true → c ≡ true → cond (a && b && c) x y ≡ x
chosen true true true x y p q r = refl
chosen true true false x y p q r = cc
chosen true false c x y p q r = cc
chosen false b c x y p q r = cc

pub number_of-decimal : (places limit n : ℕ) → 0 < places → n < 10 ^ places → n ≤ limit → n < 2 ^ 64 → number_of places limit (decimal n) ≡ Some n
number_of-decimal places limit n some short within small =
    let value : value_after 0 (decimal n) ≡ n = digits_value-decimal own n small in
    let fits : value_after 0 (decimal n) ≤ limit = omega arith in
    chosen (is_number (decimal n)) (nat_le (length (decimal n)) places) (nat_le (value_after 0 (decimal n)) limit) (Some (value_after 0 (decimal n))) None (is_number-decimal n small) (le-leb _ _ (length-decimal-le places n some short small)) (le-leb _ _ fits)
    ∙ ap Some value

between_by : (least limit n : ℕ) (word : List ℕ) → number_of 10 limit word ≡ Some n → nat_le least n ≡ true → number_between least limit word ≡ Some n
between_by least limit n word is low = rw (is, low) refl

pub number_between-decimal : (least limit n : ℕ) → least ≤ n → n ≤ limit → limit < 2 ^ 32 → number_between least limit (decimal n) ≡ Some n
number_between-decimal least limit n low high bounded =
    between_by least limit n (decimal n) (number_of-decimal 10 limit n (lit< tt) (omega arith) high (omega arith)) (le-leb least n low)

-- CUTTING AT A BYTE

abbrev lacks : ℕ → List ℕ → Bool
lacks byte = list_all (λ b. not (b == byte))

front_cons : (t : Bool) (n m : ℕ) (more : Bool) → (more ≡ true → n ≡ m) → (t && more) ≡ true → cond t (1 + n) 0 ≡ suc m
front_cons true n m more later all = let e : n ≡ m = later all in omega arith
front_cons false n m more later all = cc

front_len : (byte : ℕ) (prefix rest : List ℕ) → lacks byte prefix ≡ true → prefix_len (λ b. not (b == byte)) (prefix ++ byte ∷ rest) ≡ length prefix
front_len byte [] rest without = ap (λ (b : Bool). cond (not b) (1 + prefix_len (λ b. not (b == byte)) rest) 0) (eq-eqb byte byte refl)
front_len byte (b ∷ prefix) rest without = front_cons (not (b == byte)) (prefix_len (λ b. not (b == byte)) (prefix ++ byte ∷ rest)) (length prefix) (lacks byte prefix) (front_len byte prefix rest) without

cut_after : (byte n : ℕ) (prefix rest : List ℕ) → n ≡ length prefix → cond (nat_lt n (length (prefix ++ byte ∷ rest))) (cut_pair (take n (prefix ++ byte ∷ rest)) (drop (n + 1) (prefix ++ byte ∷ rest))) None ≡ cut_pair prefix rest
cut_after byte n prefix rest is =
    let inside : n < length (prefix ++ byte ∷ rest) = omega (arith, length-append prefix (byte ∷ rest)) in
    let first : take n (prefix ++ byte ∷ rest) ≡ prefix = ap (λ (k : ℕ). take k (prefix ++ byte ∷ rest)) is ∙ take-append_seam prefix (byte ∷ rest) in
    let behind : drop (n + 1) (prefix ++ byte ∷ rest) ≡ rest = ap (λ (k : ℕ). drop (k + 1) (prefix ++ byte ∷ rest)) is ∙ drop-append-add prefix (byte ∷ rest) 1 in
    ap (λ (b : Bool). cond b (cut_pair (take n (prefix ++ byte ∷ rest)) (drop (n + 1) (prefix ++ byte ∷ rest))) None) (lt-ltb n _ inside)
    ∙ ap (λ (word : List ℕ). cut_pair word (drop (n + 1) (prefix ++ byte ∷ rest))) first
    ∙ ap (λ (word : List ℕ). cut_pair prefix word) behind

pub cut_at-front : (byte : ℕ) (prefix rest : List ℕ) → lacks byte prefix ≡ true → cut_at byte (prefix ++ byte ∷ rest) ≡ cut_pair prefix rest
cut_at-front byte prefix rest without = cut_after byte (position_or_len (λ b. b == byte) (prefix ++ byte ∷ rest)) prefix rest (front_len byte prefix rest without)

-- TESTS OF ALL BYTES

pub first_true : (a b : Bool) → (a && b) ≡ true → a ≡ true
first_true true b all = refl
first_true false b all = cc

pub second_true : (a b : Bool) → (a && b) ≡ true → b ≡ true
second_true true b all = all
second_true false b all = cc

pub both_true : (a b : Bool) → a ≡ true → b ≡ true → (a && b) ≡ true
both_true true b p q = q
both_true false b p q = cc

pub all_more : (p q : ℕ → Bool) → ((x : ℕ) → p x ≡ true → q x ≡ true) → (xs : List ℕ) → list_all p xs ≡ true → list_all q xs ≡ true
all_more p q more [] all = refl
all_more p q more (x ∷ xs) all =
    both_true (q x) (list_all q xs) (more x (first_true (p x) (list_all p xs) all)) (all_more p q more xs (second_true (p x) (list_all p xs) all))

pub all_append : (p : ℕ → Bool) (xs ys : List ℕ) → list_all p xs ≡ true → list_all p ys ≡ true → list_all p (xs ++ ys) ≡ true
all_append p xs ys first second = list_all-append p xs ys ∙ both_true (list_all p xs) (list_all p ys) first second

pub decimal_all : (p : ℕ → Bool) → ((x : ℕ) → is_ascii_digit x ≡ true → p x ≡ true) → (n : ℕ) → n < 2 ^ 64 → list_all p (decimal n) ≡ true
decimal_all p digit n small = all_more is_ascii_digit p digit (decimal n) (digits_all n small)

dots : (a b c d : List ℕ) → a ++ 46 ∷ [] ++ b ++ 46 ∷ [] ++ c ++ 46 ∷ [] ++ d ≡ a ++ 46 ∷ (b ++ 46 ∷ (c ++ 46 ∷ d))
dots a b c d = simp append_assoc

pub addr_spelled : (addr : Addr) → addr_text addr ≡ decimal (addr.number / 16777216) ++ 46 ∷ (decimal (addr.number / 65536 % 256) ++ 46 ∷ (decimal (addr.number / 256 % 256) ++ 46 ∷ decimal (addr.number % 256)))
addr_spelled addr = dots (decimal (addr.number / 16777216)) (decimal (addr.number / 65536 % 256)) (decimal (addr.number / 256 % 256)) (decimal (addr.number % 256))

pub endpoint_spelled : (addr : Addr) (port : ℕ) → endpoint_text addr port ≡ addr_text addr ++ 58 ∷ decimal port
endpoint_spelled addr port = append_assoc (addr_text addr) (58 ∷ []) (decimal port)

all_dot : (p : ℕ → Bool) (xs ys : List ℕ) → p 46 ≡ true → list_all p xs ≡ true → list_all p ys ≡ true → list_all p (xs ++ 46 ∷ ys) ≡ true
all_dot p xs ys dot first second = all_append p xs (46 ∷ ys) first (both_true (p 46) (list_all p ys) dot second)

pub addr_all : (p : ℕ → Bool) → ((x : ℕ) → is_ascii_digit x ≡ true → p x ≡ true) → p 46 ≡ true → (a : Addr) → a.number < 2 ^ 32 → list_all p (addr_text a) ≡ true
addr_all p digit dot a small =
    ap (list_all p) (addr_spelled a)
    ∙ all_dot p (decimal (a.number / 16777216)) _ dot (decimal_all p digit (a.number / 16777216) (omega arith))
    (all_dot p (decimal (a.number / 65536 % 256)) _ dot (decimal_all p digit (a.number / 65536 % 256) (omega arith))
    (all_dot p (decimal (a.number / 256 % 256)) _ dot (decimal_all p digit (a.number / 256 % 256) (omega arith))
    (decimal_all p digit (a.number % 256) (omega arith))))

digit_isnt_dot : (x : ℕ) → is_ascii_digit x ≡ true → not (x == 46) ≡ true
digit_isnt_dot x digit = grind (arith, nat_tests)

digit_isnt_colon : (x : ℕ) → is_ascii_digit x ≡ true → not (x == 58) ≡ true
digit_isnt_colon x digit = grind (arith, nat_tests)

-- ADDRESSES

addr_by : (word w1 r1 w2 r2 w3 w4 : List ℕ) (a b c d : ℕ) → cut_at 46 word ≡ cut_pair w1 r1 → number_of 3 255 w1 ≡ Some a → cut_at 46 r1 ≡ cut_pair w2 r2 → number_of 3 255 w2 ≡ Some b → cut_at 46 r2 ≡ cut_pair w3 w4 → number_of 3 255 w3 ≡ Some c → number_of 3 255 w4 ≡ Some d → addr_of word ≡ Some (record { number = 16777216 * a + 65536 * b + 256 * c + d })
addr_by word w1 r1 w2 r2 w3 w4 a b c d c1 n1 c2 n2 c3 n3 n4 = rw (c1, n1, c2, n2, c3, n3, n4) refl

octet : (n : ℕ) → n < 256 → number_of 3 255 (decimal n) ≡ Some n
octet n small = number_of-decimal 3 255 n (lit< tt) (omega arith) (omega arith) (omega arith)

dotless : (n : ℕ) → n < 2 ^ 64 → lacks 46 (decimal n) ≡ true
dotless n small = decimal_all (λ b. not (b == 46)) digit_isnt_dot n small

octets_sum : (n : ℕ) → n < 2 ^ 32 → 16777216 * (n / 16777216) + 65536 * (n / 65536 % 256) + 256 * (n / 256 % 256) + n % 256 ≡ n
octets_sum n small = omega arith

pub addr_of-addr_text : (addr : Addr) → addr.number < 2 ^ 32 → addr_of (addr_text addr) ≡ Some addr
addr_of-addr_text addr small =
    let n = addr.number in
    let r3 : List ℕ = decimal (n % 256) in
    let r2 : List ℕ = decimal (n / 256 % 256) ++ 46 ∷ r3 in
    let r1 : List ℕ = decimal (n / 65536 % 256) ++ 46 ∷ r2 in
    ap addr_of (addr_spelled addr)
    ∙ addr_by (decimal (n / 16777216) ++ 46 ∷ r1) (decimal (n / 16777216)) r1 (decimal (n / 65536 % 256)) r2 (decimal (n / 256 % 256)) r3 (n / 16777216) (n / 65536 % 256) (n / 256 % 256) (n % 256)
    (cut_at-front 46 (decimal (n / 16777216)) r1 (dotless (n / 16777216) (omega arith))) (octet (n / 16777216) (omega arith))
    (cut_at-front 46 (decimal (n / 65536 % 256)) r2 (dotless (n / 65536 % 256) (omega arith))) (octet (n / 65536 % 256) (omega arith))
    (cut_at-front 46 (decimal (n / 256 % 256)) r3 (dotless (n / 256 % 256) (omega arith))) (octet (n / 256 % 256) (omega arith))
    (octet (n % 256) (omega arith))
    ∙ ap (λ (k : ℕ). some_addr k) (octets_sum n small)

endpoint_by : (word a p : List ℕ) (addr : Addr) (port : ℕ) → cut_at 58 word ≡ cut_pair a p → addr_of a ≡ Some addr → port_of p ≡ Some port → endpoint_of word ≡ Some (record { addr = addr; port = Some port })
endpoint_by word a p addr port cut first second = rw (cut, first, second) refl

pub endpoint_of-endpoint_text : (addr : Addr) (port : ℕ) → addr.number < 2 ^ 32 → port < 2 ^ 16 → endpoint_of (endpoint_text addr port) ≡ Some (record { addr = addr; port = Some port })
endpoint_of-endpoint_text addr port small short =
    ap endpoint_of (endpoint_spelled addr port)
    ∙ endpoint_by (addr_text addr ++ 58 ∷ decimal port) (addr_text addr) (decimal port) addr port
    (cut_at-front 58 (addr_text addr) (decimal port) (addr_all (λ b. not (b == 58)) digit_isnt_colon refl addr small))
    (addr_of-addr_text addr small)
    (number_of-decimal 5 65535 port (lit< tt) (omega arith) (omega arith) (omega arith))
