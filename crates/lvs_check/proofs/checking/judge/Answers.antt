use Rattle.std.proofs.Common.{◌<◌, length, arith}
use Rattle.lvs_check.specs.Kinds.{sizes_in}
use Rattle.lvs_check.specs.Walks.{progress_of}
use Rattle.lvs_check.proofs.LineLemmas.{line_goes, line_refused, line_ended, whole_line}
use Rattle.lvs_check.proofs.checking.judge.Goals as goal

pub take_line-requires-clause-whole : goal.take_line-requires-clause-whole
take_line-requires-clause-whole c = whole_line c.loop-text.rest.now c.in-Some.text.now c.in-Some.after.now c.in-Some.ensures.value

pub returns-in-Err : goal.returns-in-Err
returns-in-Err c = line_refused c.verdict_of.result c.in-Err.stop (progress_of c.take_line.new.self) (sizes_in c.args.sizes) c.loop-text.number (progress_of c.loop-text.walk) c.loop-text.rest.now c.in-Some.text.now c.in-Some.after.now _ c.verdict_of.ensures c.in-Err.ensures.judged c.in-Some.ensures.value c.loop-text.invariant.judged

pub loop-text-preserved : goal.loop-text-preserved
loop-text-preserved c =
    let short : length c.in-Some.after.now < length c.loop-text.rest.now = c.in-Some.ensures.shorter in
    record {
      fit = c.in-Ok.ensures.fit;
      judged = line_goes (sizes_in c.args.sizes) c.loop-text.number (progress_of c.loop-text.walk) (progress_of c.take_line.new.self) c.loop-text.rest.now c.in-Some.text.now c.in-Some.after.now _ c.in-Some.ensures.value c.in-Ok.ensures.judged c.loop-text.invariant.judged;
      counted = omega (arith, c.loop-text.invariant.counted);
    }

pub returns : goal.returns
returns c = line_ended c.finish.result (sizes_in c.args.sizes) c.loop-text.number (progress_of c.loop-text.walk) c.loop-text.rest.now _ c.finish.ensures c.in_default.ensures.value c.loop-text.invariant.judged
