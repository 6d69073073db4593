-- The servers of the worked examples of picks.
use Rattle.std.specs.Prelude.{ℕ, true, false, Some}
use Rattle.lvs_types.specs.declared.dest.Candidate.{Candidate}
use Rattle.lvs_types.specs.declared.service.Cursor.{Cursor}

-- an eligible server of that id and weight, with so many active and inactive connections
abbrev pub loaded : ℕ → ℕ → ℕ → ℕ → Candidate
loaded id weight active inactive = record { id = record { 0 = id }; weight = weight; active = active; inactive = inactive; eligible = true }

-- one without connections
abbrev pub idle : ℕ → ℕ → Candidate
idle id weight = loaded id weight 0 0

-- one that isn't eligible
abbrev pub closed : ℕ → ℕ → Candidate
closed id weight = record (idle id weight) { eligible = false }

-- a cursor after the server of that id, with that current weight
abbrev pub cursor_after : ℕ → ℕ → Cursor
cursor_after id current_weight = record { last = Some (record { 0 = id }); cw = current_weight }
