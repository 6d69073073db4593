-- Options whose contents are skipped.
use Rattle.std.proofs.Common.{◌≡◌, ℕ, zero, suc, ◌+◌, ◌<◌, ◌≤◌, false, List, [], ◌∷◌, length, drop, get_or, refl, arith}
use Rattle.lvs_model.specs.MessageReading.{are_options}

-- contents that are all there are passed over
pub skip_contents : (n : ℕ) (bytes : List ℕ) → n ≤ length bytes → are_options n bytes ≡ are_options 0 (drop n bytes)
skip_contents zero bytes there = refl
skip_contents (suc n) [] there = absurd (omega arith)
skip_contents (suc n) (byte ∷ bytes) there = skip_contents n bytes (omega arith)

-- contents that go past the end are none
pub miss_contents : (n : ℕ) (bytes : List ℕ) → length bytes < n → are_options n bytes ≡ false
miss_contents zero bytes past = absurd (omega arith)
miss_contents (suc n) [] past = refl
miss_contents (suc n) (byte ∷ bytes) past = miss_contents n bytes (omega arith)

-- an option that is all there
pub pass_option : (n : ℕ) (bytes : List ℕ) → get_or bytes 1 0 ≡ n → 0 < n → n + 2 ≤ length bytes → are_options 0 bytes ≡ are_options 0 (drop (n + 2) bytes)
pass_option n [] is above there = absurd (omega arith)
pass_option n (kind ∷ []) is above there = absurd (omega arith)
pass_option zero (kind ∷ size ∷ rest) is above there = absurd (omega arith)
pass_option (suc n) (kind ∷ size ∷ rest) is above there =
    let e : suc n + 2 ≡ suc (suc (suc n)) = omega arith in
    rw (is, e) (skip_contents (suc n) rest (omega arith))

-- an option that goes past the end
pub miss_option : (n : ℕ) (bytes : List ℕ) → get_or bytes 1 0 ≡ n → 0 < n → 2 ≤ length bytes → length bytes < n + 2 → are_options 0 bytes ≡ false
miss_option n [] is above there past = absurd (omega arith)
miss_option n (kind ∷ []) is above there past = absurd (omega arith)
miss_option zero (kind ∷ size ∷ rest) is above there past = absurd (omega arith)
miss_option (suc n) (kind ∷ size ∷ rest) is above there past = rw is (miss_contents (suc n) rest (omega arith))

-- an option of length 0
pub empty_option : (bytes : List ℕ) → 2 ≤ length bytes → get_or bytes 1 0 ≡ 0 → are_options 0 bytes ≡ false
empty_option [] there is = absurd (omega arith)
empty_option (kind ∷ []) there is = absurd (omega arith)
empty_option (kind ∷ size ∷ rest) there is = rw is refl

-- an option whose length is missing
pub cut_option : (bytes : List ℕ) → 0 < length bytes → length bytes < 2 → are_options 0 bytes ≡ false
cut_option [] there past = absurd (omega arith)
cut_option (kind ∷ []) there past = refl
cut_option (kind ∷ size ∷ rest) there past = absurd (omega arith)
