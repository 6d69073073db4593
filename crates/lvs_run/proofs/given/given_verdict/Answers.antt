use Rattle.lvs_run.proofs.TaskLemmas.{verdict_given}
use Rattle.lvs_run.proofs.given.given_verdict.Goals as goal

pub returns-in-Ok-clause-judged : goal.returns-in-Ok-clause-judged
returns-in-Ok-clause-judged c =
    verdict_given c.args.input.now c.two_parts-parts.result.first.now c.two_parts-parts.result.second.now c.in_ok-script.script c.in-Ok.verdict c.two_parts-parts.ensures.first c.two_parts-parts.ensures.second c.in_ok-script.ensures.accepted c.in-Ok.ensures.judged
