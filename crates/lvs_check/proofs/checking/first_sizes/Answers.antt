use Rattle.std.proofs.Common.{◌∙◌, ap}
use Rattle.lvs_model.specs.ReportReading.{line_of}
use Rattle.lvs_check.specs.Kinds.{sizes_in, said_by}
use Rattle.lvs_check.proofs.LineLemmas.{nothing_said, first_said, whole_line, same_sizes}
use Rattle.lvs_check.proofs.checking.first_sizes.Goals as goal

pub returns-in_default-clause-judged : goal.returns-in_default-clause-judged
returns-in_default-clause-judged c = λ script. nothing_said script c.args.report.now c.in_default.ensures.value

pub returns-clause-judged : goal.returns-clause-judged
returns-clause-judged c = λ script.
    let whole = whole_line c.args.report.now c.in-Some.line.now c.in-Some._after.now c.in-Some.ensures.value in
    let said = c.sizes_said.ensures.value ∙ ap said_by (c.in_ok-kind_of.ensures c.in-Some.line.now whole) ∙ same_sizes (line_of c.in-Some.line.now) in
    first_said script c.args.report.now c.in-Some.line.now c.in-Some._after.now (sizes_in c.sizes_said.result) c.in-Some.ensures.value said
