-- A source and a sink in memory (this project's profile).
use Rattle.std.specs.Prelude.{◌≡◌, ℕ, ◌+◌, ◌-◌, ◌^◌, min, List, length, drop, take, ◌++◌, Bool, true, false, ◌&&◌, ◌||◌, ◌==◌, nat_lt, Result, Ok, Err}
use Rattle.std.specs.List.{list_any}
use Rattle.lvs_types.specs.declared.memory.Failed.{Failed}

-- what a contract sees of a source in memory: calls are numbered from 0, and the named ones fail
pub record SourceSeen : Type 0 where
  pub left : List ℕ
  pub piece : ℕ
  pub fails : List ℕ
  pub calls : ℕ
  pub faults : ℕ

-- what a contract sees of a sink in memory: calls are numbered from 0, and the named ones fail
pub record SinkSeen : Type 0 where
  pub written : List ℕ
  pub room : ℕ
  pub piece : ℕ
  pub fails : List ℕ
  pub calls : ℕ
  pub faults : ℕ

-- one more, up to the last number of 64 bits
abbrev pub one_more : ℕ → ℕ
one_more n = min (n + 1) (2 ^ 64 - 1)

-- whether the call of that number is one of those that fail
abbrev pub is_named : List ℕ → ℕ → Bool
is_named fails call = list_any (λ n. n == call) fails

-- what a read into so much room does: it fails exactly where its number is named, and else gives as many bytes as the piece, the room and what is left allow
abbrev pub IsRead : SourceSeen → SourceSeen → ℕ → Result ℕ Failed → Type 0
IsRead old new room (Ok count) =
    (is_named old.fails old.calls ≡ false)
    × (count ≡ min old.piece (min room (length old.left)))
    × (new ≡ record old { left = drop count old.left; calls = one_more old.calls })
IsRead old new room (Err _) = (is_named old.fails old.calls ≡ true) × (new ≡ record old { calls = one_more old.calls; faults = one_more old.faults })

-- whether a write of these bytes fails: its number is named, or bytes are handed in and no room is left
abbrev pub write_fails : SinkSeen → List ℕ → Bool
write_fails s bytes = is_named s.fails s.calls || ((s.room == 0) && nat_lt 0 (length bytes))

-- what a write of these bytes does: else it takes as many as the piece, the bytes and the room allow
abbrev pub IsWritten : SinkSeen → SinkSeen → List ℕ → Result ℕ Failed → Type 0
IsWritten old new bytes (Ok count) =
    (write_fails old bytes ≡ false)
    × (count ≡ min old.piece (min (length bytes) old.room))
    × (new ≡ record old { written = old.written ++ take count bytes; room = old.room - count; calls = one_more old.calls })
IsWritten old new bytes (Err _) = (write_fails old bytes ≡ true) × (new ≡ record old { calls = one_more old.calls; faults = one_more old.faults })
