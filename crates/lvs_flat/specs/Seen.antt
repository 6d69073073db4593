-- What a contract sees of a director.
use Rattle.std.specs.Prelude.{ℕ}
use Rattle.lvs_model.specs.State.{State}

pub record FlatSeen : Type 0 where
  pub state : State
  pub steps : ℕ
