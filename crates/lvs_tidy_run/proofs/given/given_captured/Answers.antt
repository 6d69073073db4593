use Rattle.std.proofs.Common.{◌≡◌, Ok}
use Rattle.lvs_pcap.proofs.WithinLemmas.{within_captured}
use Rattle.lvs_tidy.proofs.ReadAgain.{read_within}
use Rattle.lvs_model.specs.Scripts.{script_of}
use Rattle.lvs_tidy_run.proofs.CapturedLemmas.{captured_again, given_is}
use Rattle.lvs_tidy_run.proofs.FileBytes.{capture_holds}
use Rattle.lvs_tidy_run.proofs.Makings.{made_of}
use Rattle.lvs_tidy_run.proofs.given.given_captured.Goals as goal

pub returns-clause-accepted : goal.returns-clause-accepted
returns-clause-accepted c =
    made_of c.args.asked c.args.input.now c.two_parts-parts.result.first.now c.two_parts-parts.result.second.now c.in_ok-script.script c.add_capture.new.script c.in_ok-capture.capture c.two_parts-parts.ensures.first c.two_parts-parts.ensures.second c.in_ok-script.ensures.accepted c.in_ok-capture.ensures.accepted c.in_ok-add_capture.ensures.accepted

pub returns-clause-again : goal.returns-clause-again
returns-clause-again c = λ have.
    let read : script_of c.two_parts-parts.result.first.now ≡ Ok c.in_ok-script.script = given_is (script_of c.two_parts-parts.result.first.now) c.in_ok-script.script c.in_ok-script.ensures.accepted in
    let within = within_captured c.args.asked.net c.args.asked.bits c.args.asked.step c.in_ok-script.script c.add_capture.new.script c.in_ok-capture.capture c.in_ok-add_capture.ensures.accepted (read_within c.two_parts-parts.result.first.now c.in_ok-script.script read) c.in_ok-capture.ensures.seconds in
    captured_again c.two_parts-parts.result.first.now c.args.asked.net c.args.asked.bits c.args.asked.step c.in_ok-script.script c.add_capture.new.script c.in_ok-capture.capture read c.in_ok-add_capture.ensures.accepted within (capture_holds c.two_parts-parts.result.second.now c.in_ok-capture.capture c.in_ok-capture.ensures.accepted c.in_ok-capture.ensures.bytes) have
