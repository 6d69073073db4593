use Rattle.lvs_sched_turn.proofs.Divisors.{covers_start, covers_met, covers_all}
use Rattle.lvs_model.specs.RoundRobin.{eligible_weights}
use Rattle.lvs_sched_turn.proofs.divisor.weight_divisor.Goals as goal

pub loop-server-init : goal.loop-server-init
loop-server-init c = covers_start (eligible_weights c.args.servers.now)

pub loop-server-preserved : goal.loop-server-preserved
loop-server-preserved c = covers_met _ _ c.args.servers.now c.loop-server.server-index _ _ c.loop-server-test.true c.with_weight-divisor.ensures.eligible c.with_weight-divisor.ensures.other c.loop-server.invariant

pub returns : goal.returns
returns c = covers_all c.loop-server.divisor c.args.servers.now c.loop-server.server-index c.loop-server-test.false c.loop-server.invariant
