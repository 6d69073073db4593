use Rattle.std.proofs.Common.{◌++◌}
use Rattle.lvs_run.specs.Written.{records_of}
use Rattle.lvs_run.proofs.SentLemmas.{records_step}
use Rattle.lvs_run.proofs.output.append_acts.Goals as goal

pub loop-act-preserved : goal.loop-act-preserved
loop-act-preserved c =
    records_step c.args.seconds c.loop-act.act-index c.loop-act.out.items c.append_reply.new.out.items (c.args.out.now.items ++ records_of c.args.seconds c.args.acts.now) c.args.acts.now c.act-item.result c.loop-act-test.true c.act-item.is c.in_ok-append_reply.ensures c.loop-act.invariant
