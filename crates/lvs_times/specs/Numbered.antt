-- Entries and timers by their numbers.
use Rattle.std.specs.Prelude.{◌≡◌, ℕ, ◌+◌, ◌*◌, ◌/◌, ◌%◌, ◌<◌, ◌^◌}
use Rattle.lvs_types.specs.declared.entry.Entry.{Entry}
use Rattle.lvs_times.specs.declared.load.Load.{Load}
use Rattle.lvs_times.specs.declared.load.Timeouts.{Timeouts}
use Rattle.lvs_times.specs.declared.load.Timeouts.TheVariants.{One, Two, Ten}
use Rattle.lvs_timer.specs.declared.timer.Timer.{Timer}

-- by how many timeouts take turns
abbrev pub deadline_in : Timeouts → ℕ → ℕ → ℕ
deadline_in One count id = 60 + id * 10 / count
deadline_in Two count id = 60 + id * 5 / count + id % 2 * 5
deadline_in Ten count id = 60 + id % 10

-- the deadline of an id: one tenth of all ids is due at each of ten moments
abbrev pub deadline_by : Load → ℕ → ℕ
deadline_by load id = deadline_in load.timeouts load.count id

-- the timer has the deadline of its id
abbrev pub IsTimed : Load → Timer → Type 0
IsTimed load t = (t.id < 2 ^ 32) × (t.deadline ≡ deadline_by load t.id)

-- the entry has the key of its number, which is below this one
abbrev pub IsBelow : ℕ → Entry → Type 0
IsBelow n e = (e.key.caddr.number ≡ e.id) × (e.id < n)
