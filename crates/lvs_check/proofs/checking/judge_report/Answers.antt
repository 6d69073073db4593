use Rattle.lvs_check.specs.Kinds.{sizes_in}
use Rattle.lvs_check.specs.Walks.{progress_of}
use Rattle.lvs_check.proofs.LegalLaws.{judged_is}
use Rattle.lvs_check.proofs.checking.judge_report.Goals as goal

pub returns : goal.returns
returns c = judged_is c.args.script.now c.args.report.now (sizes_in c.in_ok-sizes.sizes) (progress_of c.in_ok-walk.walk) c.judge.result c.in_ok-walk.ensures.progress (c.in_ok-sizes.ensures.judged c.args.script.now) c.judge.ensures
