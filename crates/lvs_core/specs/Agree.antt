-- A board and a list of buckets that agree, and the state that they make together.
use Rattle.std.specs.Prelude.{◌≡◌, ℕ, ◌+◌, ◌≤◌, List, [], ◌∷◌, length}
use Rattle.std.specs.List.{flat_map}
use Rattle.std.specs.List.Sorted.{IsStrictlyIncreasing}
use Rattle.lvs_types.specs.declared.entry.Entry.{Entry}
use Rattle.lvs_model.specs.State.{State}
use Rattle.lvs_model.specs.Lists.{sorted_by}
use Rattle.lvs_model.specs.Buckets.{entries_of}
use Rattle.lvs_model.specs.Counted.{IsCounted}
use Rattle.lvs_model.specs.WellFormed.{IsWellFormed, entry_ids}
use Rattle.lvs_bucket.specs.Seen.{BucketSeen}
use Rattle.lvs_board.specs.Seen.{BoardSeen}
use Rattle.lvs_board.specs.Stands.{StandsFor, joined}

-- the entries of all buckets, one bucket after the other
abbrev pub all_of : List BucketSeen → List Entry
all_of buckets = flat_map (λ (bucket : BucketSeen). bucket.entries) buckets

-- the state that a board and buckets make together: its entries are those of all buckets, by id
abbrev pub state_of : BoardSeen → List BucketSeen → State
state_of board buckets = joined board (sorted_by (λ (e : Entry). e.id) (all_of buckets)) (length buckets)

-- a bucket of this number, made for as many as the state has, with the entries that the state has there
pub record IsBucket (s : State) (at : ℕ) (bucket : BucketSeen) : Type 0 where
  pub number : bucket.number ≡ at
  pub buckets : bucket.buckets ≡ s.buckets
  pub entries : bucket.entries ≡ entries_of at s

-- the buckets are numbered, from a number on
abbrev pub AreBuckets : State → ℕ → List BucketSeen → Type 0
AreBuckets s at [] = Unit {0}
AreBuckets s at (bucket ∷ buckets) = IsBucket s at bucket × AreBuckets s (at + 1) buckets

-- the state is the one that the board and the buckets make together
pub record Agree (board : BoardSeen) (buckets : List BucketSeen) (s : State) : Type 0 where
  -- no act waits to be taken out
  pub book : board.book ≡ []
  pub stands : StandsFor board s
  pub well_formed : IsWellFormed s
  -- each entry has at most as many packets as the board has steps, and one more
  pub counted : IsCounted board.steps s
  pub rising : IsStrictlyIncreasing (entry_ids s.entries)
  pub whole : length buckets ≡ s.buckets
  pub few : s.buckets ≤ 256
  pub each : AreBuckets s 0 buckets
