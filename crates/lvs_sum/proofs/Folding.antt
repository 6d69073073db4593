-- A folded number, and updates that keep a sum of all ones.
use Rattle.std.proofs.Common.{◌≡◌, ℕ, ◌+◌, ◌-◌, ◌*◌, ◌/◌, ◌%◌, ◌<◌, ◌≤◌, zero, suc, refl, arith}
use Rattle.std.proofs.lemmas.Bool.Decides.{nat_tests}
use Rattle.std.specs.Prelude.{if◌then◌else◌, ◌==◌, true}
use Rattle.lvs_sum.specs.Sums.{folded, complement, update16, update32}

-- a positive number's fold
pub folded_of : (n : ℕ) → 0 < n → folded n ≡ (n - 1) % 65535 + 1
folded_of n h = grind (arith, nat_tests)

pub folded_small : (n : ℕ) → folded n ≤ 65535
folded_small n = grind (arith, nat_tests)

-- a number is its fold, and carries of 65535 each
pub folded_split : (n : ℕ) → (q : ℕ) × (n ≡ 65535 * q + folded n)
folded_split zero = (0, refl)
folded_split (suc n) = (n / 65535, omega (arith, folded_of (suc n) (omega arith)))

-- all ones: a multiple of 65535 that isn't 0
pub full_of : (n q : ℕ) → n ≡ 65535 * q → 0 < n → folded n ≡ 65535
full_of n q e h = omega (arith, folded_of n h)

pub full_split : (n : ℕ) → folded n ≡ 65535 → (q : ℕ) × (n ≡ 65535 * q) × (0 < n)
full_split zero e = absurd (omega arith)
full_split (suc n) e = (n / 65535 + 1, omega (arith, folded_of (suc n) (omega arith)), omega arith)

pub update16_small : (sum old new : ℕ) → update16 sum old new ≤ 65535
update16_small sum old new = omega arith

-- RFC 1624, equation 3: a sum of all ones stays so where a word and the checksum over it change together, beside a rest that isn't 0
pub update16_keeps : (rest sum old new : ℕ) → 0 < rest → sum ≤ 65535 → old ≤ 65535 → folded (rest + sum + old) ≡ 65535 → folded (rest + update16 sum old new + new) ≡ 65535
update16_keeps rest sum old new some s o full =
    let t : ℕ = complement sum + complement old + new in
    let before = full_split (rest + sum + old) full in
    let after = folded_split t in
    let small = folded_small t in
    full_of (rest + update16 sum old new + new) (before.0 + after.0 - 1) (omega (arith, before.1, after.1, small)) (omega arith)

-- the same for two neighbouring words
pub update32_keeps : (rest sum old new : ℕ) → 0 < rest → sum ≤ 65535 → old < 4294967296 → folded (rest + sum + (old / 65536 + old % 65536)) ≡ 65535 → folded (rest + update32 sum old new + (new / 65536 + new % 65536)) ≡ 65535
update32_keeps rest sum old new some s o full =
    let first : folded ((rest + old % 65536) + update16 sum (old / 65536) (new / 65536) + new / 65536) ≡ 65535 =
    update16_keeps (rest + old % 65536) sum (old / 65536) (new / 65536) (omega arith) s (omega arith) (let e : rest + old % 65536 + sum + old / 65536 ≡ rest + sum + (old / 65536 + old % 65536) = omega arith in rw e full) in
    let high = update16 sum (old / 65536) (new / 65536) in
    let second : folded ((rest + new / 65536) + update32 sum old new + new % 65536) ≡ 65535 =
    update16_keeps (rest + new / 65536) high (old % 65536) (new % 65536) (omega arith) (update16_small sum (old / 65536) (new / 65536)) (omega arith)
    (let e : rest + new / 65536 + high + old % 65536 ≡ rest + old % 65536 + high + new / 65536 = omega arith in rw e first) in
    let e : rest + update32 sum old new + (new / 65536 + new % 65536) ≡ rest + new / 65536 + update32 sum old new + new % 65536 = omega arith in
    rw e second

-- a checksum of 0 may be written as 65535, which is the same number in ones' complement (RFC 768)
pub ones_keep : (rest sum : ℕ) → folded (rest + sum) ≡ 65535 → folded (rest + (if sum == 0 then 65535 else sum)) ≡ 65535
ones_keep rest sum full =
    let before = full_split (rest + sum) full in
    let written : ℕ = if sum == 0 then 65535 else sum in
    full_of (rest + written) (before.0 + (if sum == 0 then 1 else 0)) (grind (arith, nat_tests, before.1)) (grind (arith, nat_tests, before.2))

-- carries of 65535 don't tell in the fold of what isn't 0
pub folded_carries : (n q : ℕ) → 0 < n → folded (65535 * q + n) ≡ folded n
folded_carries n q some = omega (arith, folded_of n some, folded_of (65535 * q + n) (omega arith))

-- the test that a sum is of all ones
pub test_full : (n : ℕ) → (folded n == 65535) ≡ true → folded n ≡ 65535
test_full n is = grind (arith, nat_tests)

pub full_test : (n : ℕ) → folded n ≡ 65535 → (folded n == 65535) ≡ true
full_test n full = rw full refl
