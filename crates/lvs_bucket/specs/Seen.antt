-- What contracts see of a bucket.
use Rattle.std.specs.Prelude.{ℕ, List}
use Rattle.lvs_types.specs.declared.entry.Entry.{Entry}

pub record BucketSeen : Type 0 where
  -- from 0 on
  pub number : ℕ
  -- of how many it is one
  pub buckets : ℕ
  -- in order of id
  pub entries : List Entry
  -- for how many changes there is room
  pub spare : ℕ
