-- Entries and their deadlines, kept apart.
use Rattle.std.specs.Prelude.{◌≡◌, ℕ, ◌≤◌, List, map}
use Rattle.lvs_types.specs.declared.entry.Entry.{Entry}
use Rattle.lvs_entries.specs.Seen.{AreListed}
use Rattle.lvs_timer.specs.declared.timer.Timer.{Timer}

abbrev pub timer_of : Entry → Timer
timer_of e = record { deadline = e.deadline; id = e.id }

abbrev pub timers_of : List Entry → List Timer
timers_of entries = map timer_of entries

-- the timers are those of the entries, which have ids and keys of their own
pub record IsPair (entries : List Entry) (armed : List Timer) : Type 0 where
  pub timers : armed ≡ timers_of entries
  pub listed : AreListed entries

-- the entries and the timers have room for so many more
pub record HasRoom (room spare spare_timers : ℕ) : Type 0 where
  pub entries : room ≤ spare
  pub timers : room ≤ spare_timers
