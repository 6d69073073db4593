use Rattle.std.proofs.Common.{Err, ◌∙◌, ap}
use Rattle.lvs_check.specs.Kinds.{kind_read}
use Rattle.lvs_check.proofs.KindLemmas.{kind_of_lines, kind_unknown, kind_listing}
use Rattle.lvs_check.proofs.line.kind_of.Goals as goal

pub returns-in-Ok : goal.returns-in-Ok
returns-in-Ok c = λ text is. c.kind_of_read.ensures ∙ ap kind_read c.deref.ensures.value ∙ kind_of_lines c.args.whole.now text c.in-Ok.lines.items is c.in-Ok.ensures.accepted

pub returns-then-line-eq1 : goal.returns-then-line-eq1
returns-then-line-eq1 c = λ text is.
    let at = c.in-Err-Unreadable.line in
    kind_unknown c.args.whole.now text at is (c.read_report.ensures.refused at (c.in-Err-Unreadable.is ∙ ap Err c.in-Err-Unreadable.field-0-is)) c.if-line-eq1.true

pub returns-else-line-eq1 : goal.returns-else-line-eq1
returns-else-line-eq1 c = λ text is.
    let at = c.in-Err-Unreadable.line in
    kind_listing c.args.whole.now text at is (c.read_report.ensures.refused at (c.in-Err-Unreadable.is ∙ ap Err c.in-Err-Unreadable.field-0-is)) c.if-line-eq1.false
