use Rattle.lvs_run.proofs.TaskLemmas.{captured_task}
use Rattle.lvs_run.proofs.given.given_captured.Goals as goal

pub returns-clause-accepted : goal.returns-clause-accepted
returns-clause-accepted c =
    captured_task c.args.net c.args.bits c.args.step c.args.input.now c.two_parts-parts.result.first.now c.two_parts-parts.result.second.now c.in_ok-script.script c.add_capture.new.script c.in_ok-capture.capture c.two_parts-parts.ensures.first c.two_parts-parts.ensures.second c.in_ok-script.ensures.accepted c.in_ok-capture.ensures.accepted c.in_ok-add_capture.ensures.accepted
