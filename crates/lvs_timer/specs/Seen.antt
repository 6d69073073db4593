-- What contracts see of the timers.
use Rattle.std.specs.Prelude.{ℕ, List}
use Rattle.lvs_timer.specs.declared.timer.Timer.{Timer}

pub record TimersSeen : Type 0 where
  -- in order of id, each id once
  pub timers : List Timer
  -- how many more can be armed without memory
  pub spare : ℕ
