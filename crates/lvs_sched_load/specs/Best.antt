-- Which of the first candidates is the best.
use Rattle.std.specs.Prelude.{◌≡◌, ℕ, ◌<◌, Bool, true, false, List, Option, Some, None, slice_get}
use Rattle.lvs_types.specs.declared.dest.Candidate.{Candidate}

-- among the first n candidates, the one at that place is eligible, no eligible one is better, and it is better than each eligible one before it
pub record IsBestAmong (better : Candidate → Candidate → Bool) (cs : List Candidate) (n place : ℕ) (best : Candidate) : Type 0 where
  pub there : slice_get cs place ≡ Some best
  pub within : place < n
  pub eligible : best.eligible ≡ true
  pub unbeaten : (k : ℕ) → k < n → (c : Candidate) → slice_get cs k ≡ Some c → c.eligible ≡ true → better c best ≡ false
  pub first : (k : ℕ) → k < place → (c : Candidate) → slice_get cs k ≡ Some c → c.eligible ≡ true → better best c ≡ true

-- the place of the best of the first n candidates, and None where none of them is eligible
abbrev pub IsBest : (Candidate → Candidate → Bool) → List Candidate → ℕ → Option ℕ → Type 0
IsBest better cs n None = (k : ℕ) → k < n → (c : Candidate) → slice_get cs k ≡ Some c → c.eligible ≡ false
IsBest better cs n (Some place) = (best : Candidate) × IsBestAmong better cs n place best
