-- The rule over the relay's queue.
use Rattle.std.specs.Prelude.{◌≡◌, ℕ, List, ◌++◌}
use mathlib.Core.Option.{some}
use lib.ListN.{get_elem?}
use Rattle.lvs_pair.specs.declared.rule.Side.{Side}
use Rattle.lvs_pair.specs.declared.rule.Side.TheVariants.{Both, Posts, Takes, Spent}

-- by the side of the pass of this number: only one pass posts, and it has what was posted; only one takes, and it has what was taken
abbrev pub Fits : ℕ → ℕ → List (List ℕ) → List (List ℕ) → ℕ → Side → Type 0
Fits poster taker posted taken pass (Both sent got) = (pass ≡ poster) × (pass ≡ taker) × (sent ≡ posted) × (got ≡ taken)
Fits poster taker posted taken pass (Posts sent) = (pass ≡ poster) × (sent ≡ posted)
Fits poster taker posted taken pass (Takes got) = (pass ≡ taker) × (got ≡ taken)
Fits poster taker posted taken pass Spent = Unit {0}

-- what was taken, and then what the queue holds, is what was posted
pub record Relayed (messages : List (List ℕ)) (sides : List Side) : Type 0 where
  pub poster : ℕ
  pub taker : ℕ
  pub posted : List (List ℕ)
  pub taken : List (List ℕ)
  pub order : posted ≡ taken ++ messages
  pub each : (pass : ℕ) (side : Side) → get_elem? sides pass ≡ some side → Fits poster taker posted taken pass side
