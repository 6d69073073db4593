-- Timers as a list, and which of them are due (this project's profile).
use Rattle.std.specs.Prelude.{ℕ, Bool, ◌==◌, nat_le, List, map}
use Rattle.std.specs.List.Sorted.{IsStrictlyIncreasing}
use Rattle.lvs_timer.specs.declared.timer.Timer.{Timer}

abbrev pub has_id : ℕ → Timer → Bool
has_id id t = t.id == id

-- the deadline is reached
abbrev pub is_due : ℕ → Timer → Bool
is_due now t = nat_le t.deadline now

abbrev pub ids_of : List Timer → List ℕ
ids_of timers = map (λ (t : Timer). t.id) timers

-- each id once, in order of id
abbrev pub AreListed : List Timer → Type 0
AreListed timers = IsStrictlyIncreasing (ids_of timers)
