use Rattle.std.proofs.Common.{◌≡◌, ◌<◌, length, Err, arith, rules}
use Rattle.lvs_model.specs.ReportReading.{report_of}
use Rattle.lvs_report.specs.declared.refused.ReportRefused.TheVariants as refusal
use Rattle.lvs_report.proofs.Reading.{lines_step, lines_stop, lines_end}
use Rattle.lvs_report.proofs.report.read_report.Goals as goal

pub loop-line-preserved : goal.loop-line-preserved
loop-line-preserved c =
    let short : length c.in-Some.after.now < length c.loop-line.rest.now = c.in-Some.ensures.shorter in
    record {
      so_far = lines_step c.loop-line.reader c.take_numbered.new.reader c.loop-line.number c.loop-line.rest.now c.in-Some.line.now c.in-Some.after.now (report_of c.args.bytes.now) c.in-Some.ensures.value c.in_ok-take_numbered.ensures.ok c.loop-line.invariant.so_far;
      counted = omega arith;
    }

pub returns-in_err-take_numbered-clause-refused : goal.returns-in_err-take_numbered-clause-refused
returns-in_err-take_numbered-clause-refused c = λ at is.
    let given : c.take_numbered.result ≡ Err (refusal.Unreadable at) = search rules in
    lines_stop c.loop-line.reader c.loop-line.number at c.loop-line.rest.now c.in-Some.line.now c.in-Some.after.now (report_of c.args.bytes.now) c.in-Some.ensures.value (c.take_numbered.ensures.refused at given) c.loop-line.invariant.so_far

pub returns-clause-refused : goal.returns-clause-refused
returns-clause-refused c = λ at is.
    lines_end c.loop-line.reader c.loop-line.number c.loop-line.rest.now (report_of c.args.bytes.now) (Err at) c.in_default.ensures.value c.loop-line.invariant.so_far (c.finish.ensures.refused at is)
