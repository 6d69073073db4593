use Rattle.std.proofs.Common.{◌∙◌}
use Rattle.lvs_core.proofs.Taken.{bucket_carried}
use Rattle.lvs_core.proofs.stepping.decide_in.Goals as goal

pub returns-clause-bucket : goal.returns-clause-bucket
returns-clause-bucket g c =
    bucket_carried g.W.Whole.whole c.args.item c.in_ok-change.change c.args.bucket.now c.prepare.new.self c.apply.new.self c.requires.can.well_formed c.requires.home c.requires.bucket c.in_ok-change.ensures.change c.prepare.ensures.entries c.apply.ensures.entries (c.apply.ensures.number ∙ c.prepare.ensures.number) (c.apply.ensures.buckets ∙ c.prepare.ensures.buckets)
