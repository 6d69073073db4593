-- When one server is better than another, by what they are compared by.
use Rattle.std.specs.Prelude.{Bool}
use Rattle.lvs_types.specs.declared.dest.Candidate.{Candidate}
use Rattle.lvs_model.specs.LeastLoad.{is_better_lc, is_better_wlc, is_better_sed}
use Rattle.lvs_sched_load.specs.declared.order.Order.{Order}
use Rattle.lvs_sched_load.specs.declared.order.Order.TheVariants.{Load, LoadOverWeight, ExpectedDelay}

abbrev pub is_better : Order → Candidate → Candidate → Bool
is_better Load a b = is_better_lc a b
is_better LoadOverWeight a b = is_better_wlc a b
is_better ExpectedDelay a b = is_better_sed a b
