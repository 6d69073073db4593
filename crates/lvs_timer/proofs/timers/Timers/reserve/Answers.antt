use Rattle.std.proofs.Common.{ap, List, arith, length}
use Rattle.lvs_timer.specs.declared.timer.Timer.{Timer}
use Rattle.lvs_timer.proofs.timers.Timers.reserve.Goals as goal

pub invariant_of-self-2 : goal.invariant_of-self-2
invariant_of-self-2 c =
    let none = ap (λ (ts : List Timer). length ts) c.in_ok-settle.ensures.ok in
    let wide = c.settle.ensures.capacity in
    let places = c.self.invariant.places in
    record { ids = c.settle.ensures.once; few = omega arith; places = omega arith }
