-- A write at the place that was found is the update of the definitions.
use Rattle.std.proofs.Common.{◌≡◌, ℕ, ◌<◌, Bool, List, length, Some, get_or, set, arith}
use Rattle.std.specs.List.{position, position_or_len}
use Rattle.lvs_model.specs.Lists.{update_first}
use Rattle.lvs_model.proofs.ListLemmas.{position_some, update_at}

pub update_by : {X : Type 0} (p : X → Bool) (f : X → X) (xs : List X) (i : ℕ) (d v : X) → position p xs ≡ Some i → v ≡ f (get_or xs i d) → set xs i v ≡ update_first p f xs
update_by p f xs i d v found is =
    let place = position_some p xs i found in
    let within : position_or_len p xs < length xs = omega arith in
    let whole = update_at p f xs d within in
    cc
