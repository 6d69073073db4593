use Rattle.std.proofs.Common.{◌≡◌, max, drop, filter}
use Rattle.lvs_model.specs.MorePicks.{greatest_weight}
use Rattle.lvs_sched_more.specs.Takes.{takes}
use Rattle.lvs_sched_more.proofs.heaviest.Among.greatest_weight.Given as goal

abbrev pub invariant-loop-server : goal.invariant-loop-server
invariant-loop-server l = max l.greatest (greatest_weight (filter (takes l.self) (drop l.server-index l.servers))) ≡ greatest_weight (filter (takes l.self) l.servers)
