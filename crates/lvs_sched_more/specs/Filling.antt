-- A table of mh that is being filled.
use Rattle.std.specs.Prelude.{ℕ, ◌≡◌, List, length, Option, is_none, count_by}

-- of the 256 slots so many are free
pub record IsFilling (free : ℕ) (slots : List (Option ℕ)) : Type 0 where
  pub number : length slots ≡ 256
  pub unused : free ≡ count_by (λ slot. is_none slot) slots
