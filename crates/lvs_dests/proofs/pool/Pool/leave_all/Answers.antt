use Rattle.lvs_dests.proofs.Cleared.{leaving_begins, leaving_goes, leaving_ends}
use Rattle.lvs_dests.proofs.pool.Pool.leave_all.Goals as goal

pub loop-key-init : goal.loop-key-init
loop-key-init c = leaving_begins c.args.self.now c.requires.whole

pub leave-requires : goal.leave-requires
leave-requires c = record { whole = c.loop-key.invariant.whole }

pub loop-key-preserved : goal.loop-key-preserved
loop-key-preserved c = leaving_goes c.args.self.now c.loop-key.self c.leave.new.self c.loop-key.key c.loop-key.invariant c.leave.ensures.whole c.leave.ensures.here c.leave.ensures.others

pub returns-clause-whole : goal.returns-clause-whole
returns-clause-whole c = c.loop-key.invariant.whole

pub returns-clause-rows : goal.returns-clause-rows
returns-clause-rows c = leaving_ends c.args.self.now c.loop-key.self c.loop-key.key c.capacity-key-end.result c.loop-key.invariant c.capacity-key-end.ensures.slots c.loop-key-test.false
