use Rattle.std.proofs.Common.{rules}
use Rattle.lvs_model.specs.Step.{step}
use Rattle.lvs_core.specs.Agree.{AreBuckets}
use Rattle.lvs_core.proofs.Taken.{taken_alone, on_ok}
use Rattle.lvs_core.proofs.stepping.take_item.Goals as goal

pub returns-in-None-clause-each : goal.returns-in-None-clause-each
returns-in-None-clause-each g c =
    on_ok (AreBuckets (step g.W.Whole.whole c.args.item).1 0 c.args.buckets.now) c.decide_alone.result
    (taken_alone g.W.Whole.whole c.args.item c.args.buckets.now c.requires.can.well_formed c.requires.can.counted.numbers.buckets (search rules) c.requires.each)
