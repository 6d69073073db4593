use Rattle.lvs_check.proofs.DueLines.{behind_first, nothing_behind}
use Rattle.lvs_check.proofs.due.first_line.Goals as goal

pub returns-in-Some-clause-first : goal.returns-in-Some-clause-first
returns-in-Some-clause-first c = behind_first _ _ _ c.in-Some.ensures.value

pub returns-in-None-clause-first : goal.returns-in-None-clause-first
returns-in-None-clause-first c = nothing_behind _ c.in-None.ensures.value
