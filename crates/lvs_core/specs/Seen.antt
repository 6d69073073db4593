-- What a contract sees of a director.
use Rattle.std.specs.Prelude.{ℕ}
use Rattle.lvs_model.specs.State.{State}

pub record CoreSeen : Type 0 where
  -- the state that its board and its buckets make together
  pub state : State
  -- how many items it has taken
  pub steps : ℕ
