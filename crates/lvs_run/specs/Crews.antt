-- What the threads of a run have, and what they keep.
use Rattle.std.specs.Prelude.{◌≡◌, ℕ, ◌≤◌}
use Rattle.lvs_types.specs.Limits.{max_workers, max_buckets}
use Rattle.lvs_model.specs.State.{State}
use Rattle.lvs_model.specs.WellFormed.{IsWellFormed}
use Rattle.lvs_run.specs.Ways.{Way}

-- a run may have so many workers and buckets
pub record IsCrew (workers buckets : ℕ) : Type 0 where
  pub some_workers : 1 ≤ workers
  pub few_workers : workers ≤ max_workers
  pub some_buckets : 1 ≤ buckets
  pub few_buckets : buckets ≤ max_buckets

-- they may step a director in that state
pub record IsCrewOf (workers buckets : ℕ) (s : State) : Type 0 where
  pub crew : IsCrew workers buckets
  pub over : s.buckets ≡ buckets
  pub well_formed : IsWellFormed s

-- what a contract sees of them
pub record ThreadedSeen : Type 0 where
  pub way : Way
  pub state : State
  -- how many steps the director has taken
  pub steps : ℕ
