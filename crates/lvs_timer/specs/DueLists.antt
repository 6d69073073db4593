-- The two parts of a store of timers: the due list, and the ones that were armed last.
use Rattle.std.specs.Prelude.{◌≡◌, ℕ, ◌+◌, ◌≤◌, List, [], ◌∷◌, ◌++◌, length, count_by, true, Option, Some, None}
use Rattle.std.specs.List.{filter, Contains}
use Rattle.lvs_model.specs.Lists.{sorted_by}
use Rattle.lvs_timer.specs.declared.timer.Timer.{Timer}
use Rattle.lvs_timer.specs.Timers.{has_id, is_due}

-- the timer was put in somewhere
pub record IsEntered (t : Timer) (old new : List Timer) : Type 0 where
  pub front : List Timer
  pub back : List Timer
  pub was : old ≡ front ++ back
  pub is : new ≡ front ++ t ∷ back

-- one of the timers is this due one, or none of them is due
abbrev pub IsDueIn : ℕ → List Timer → Option Timer → Type 0
IsDueIn now timers None = filter (is_due now) timers ≡ []
IsDueIn now timers (Some t) = (is_due now t ≡ true) × Contains timers t

-- timers in order of id
abbrev pub in_order : List Timer → List Timer
in_order timers = sorted_by (λ (t : Timer). t.id) timers

-- each id once
abbrev pub AreOnce : List Timer → Type 0
AreOnce timers = (id : ℕ) → count_by (has_id id) timers ≤ 1

-- the two parts, and for how many more there is room: of the 15 places for fresh ones so many aren't taken
pub record IsStore (due fresh : List Timer) (capacity room : ℕ) : Type 0 where
  pub ids : AreOnce (due ++ fresh)
  pub few : length fresh + room ≤ 15
  pub places : 15 ≤ capacity
