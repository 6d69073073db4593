-- A value past a limit stays past it.
use Rattle.std.proofs.Common.{◌≡◌, ℕ, ◌+◌, ◌*◌, ◌-◌, ◌≤◌, cond, List, [], ◌∷◌, Option, Some, None, arith, nat_le}
use Rattle.std.proofs.lemmas.Bool.Decides.{nat_tests}
use Rattle.lvs_model.specs.Decimals.{value_after}

value_after_ge : (n : ℕ) (text : List ℕ) → n ≤ value_after n text
value_after_ge n [] = omega arith
value_after_ge n (c ∷ cs) = omega (arith, value_after_ge (10 * n + (c - 48)) cs)

abbrev within : ℕ → ℕ → Option ℕ
within limit n = cond (nat_le n limit) (Some n) None

-- a digit that passes the limit
pub past_digit : (limit n value : ℕ) (rest : List ℕ) → None ≡ within limit n → value_after n rest ≡ value → None ≡ within limit value
past_digit limit n value rest past is =
    let more = value_after_ge n rest in
    grind (arith, nat_tests)
