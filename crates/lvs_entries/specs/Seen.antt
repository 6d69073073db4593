-- What contracts see of the entries.
use Rattle.std.specs.Prelude.{ℕ, ◌≤◌, List, map, count_by}
use Rattle.std.specs.List.Sorted.{IsStrictlyIncreasing}
use Rattle.lvs_types.specs.declared.entry.Key.{Key}
use Rattle.lvs_types.specs.declared.entry.Entry.{Entry}
use Rattle.lvs_model.specs.Lookups.{has_key}

pub record EntriesSeen : Type 0 where
  -- in order of id
  pub entries : List Entry
  -- how many more can be put in without memory
  pub spare : ℕ

-- each id once, in order of id, and each key at most once
pub record AreListed (entries : List Entry) : Type 0 where
  pub rising : IsStrictlyIncreasing (map (λ (e : Entry). e.id) entries)
  pub keys : (key : Key) → count_by (has_key key) entries ≤ 1

-- one chain
pub record ChainSeen : Type 0 where
  pub entries : List Entry
  pub spare : ℕ
