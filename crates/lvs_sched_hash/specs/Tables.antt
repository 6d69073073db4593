-- Tables of 256 slots.
use Rattle.std.specs.Prelude.{ℕ, ◌≡◌, ◌<◌, List, length, Option, None, slice_index_or}

-- the table has 256 slots, each of which holds what the rule says
pub record HoldsSlots (rule : ℕ → Option ℕ) (slots : List (Option ℕ)) : Type 0 where
  pub number : length slots ≡ 256
  pub each : (k : ℕ) → k < 256 → slice_index_or slots k None ≡ rule k
