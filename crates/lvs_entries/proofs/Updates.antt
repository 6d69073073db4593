-- A write at the place that was found is the update of the definitions.
use Rattle.std.proofs.Common.{◌≡◌, ℕ, ◌<◌, Bool, List, length, Some, set, arith}
use Rattle.std.specs.List.{position, position_or_len}
use Rattle.lvs_model.specs.Lists.{update_first}
use Rattle.lvs_model.proofs.ListLemmas.{position_some, update_at}

pub update_put : {X : Type 0} (p : X → Bool) (v : X) (xs : List X) (i : ℕ) → position p xs ≡ Some i → set xs i v ≡ update_first p (λ _. v) xs
update_put p v xs i found =
    let place = position_some p xs i found in
    let within : position_or_len p xs < length xs = omega arith in
    let whole = update_at p (λ _. v) xs v within in
    cc
