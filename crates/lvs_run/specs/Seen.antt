-- What a contract sees of the director of `serial`.
use Rattle.std.specs.Prelude.{ℕ}
use Rattle.lvs_model.specs.State.{State}

pub record DirectorSeen : Type 0 where
  pub state : State
  -- how many steps it has taken
  pub steps : ℕ
