-- How many workers and buckets a plan may have.
use Rattle.std.specs.Prelude.{ℕ, ◌≤◌}
use Rattle.lvs_compare.specs.declared.order.Shares.{Shares}

pub record AreGood (shares : Shares) : Type 0 where
  pub some_workers : 1 ≤ shares.workers
  pub few_workers : shares.workers ≤ 16
  pub some_buckets : 1 ≤ shares.buckets
  pub few_buckets : shares.buckets ≤ 256
