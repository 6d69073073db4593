use Rattle.std.proofs.Common.{◌≡◌, ◌∙◌, ◌+◌, ◌-◌, ◌<◌, ap, length, length-drop, arith, rules}
use Rattle.std.proofs.lemmas.Grind.{common_steps}
use Rattle.lvs_model.specs.CaptureFiles.{frames_behind}
use Rattle.lvs_pcap.proofs.FileLemmas.{begin_frames, one_frame}
use Rattle.lvs_pcap.proofs.WithinLemmas.{seconds_push}
use Rattle.lvs_pcap.proofs.reading.read_frames.Goals as goal

pub loop-rest-init : goal.loop-rest-init
loop-rest-init c =
    let size : length c.rest_from-rest.result.now ≡ length c.args.bytes.now - 24 = ap length c.rest_from-rest.ensures ∙ length-drop 24 c.args.bytes.now in
    record {
      so_far = begin_frames c.args.order c.args.bytes.now c.rest_from-rest.result.now c.new-frames.result.items c.new-frames.ensures.items c.rest_from-rest.ensures;
      seconds = rw c.new-frames.ensures.items tt;
      counted = omega arith;
    }

pub loop-rest-preserved : goal.loop-rest-preserved
loop-rest-preserved c =
    let some : 0 < length c.loop-rest.rest.now = grind (arith, common_steps, c.is_empty.ensures, c.loop-rest-test.true) in
    let size : length c.in_ok-frame.after.now ≡ length c.loop-rest.rest.now - (16 + length c.in_ok-frame.frame.bytes) = ap length c.in_ok-frame.ensures.rest ∙ length-drop (16 + length c.in_ok-frame.frame.bytes) c.loop-rest.rest.now in
    record {
      so_far = one_frame c.args.order c.loop-rest.at c.loop-rest.frames.items c.push.new.self.items c.in_ok-frame.frame c.loop-rest.rest.now c.in_ok-frame.after.now (frames_behind c.args.order 1 24 c.args.bytes.now) some c.in_ok-frame.ensures.read c.in_ok-frame.ensures.rest c.in_ok-push.ensures.items c.loop-rest.invariant.so_far;
      seconds = rw c.in_ok-push.ensures.items (seconds_push c.loop-rest.frames.items c.in_ok-frame.frame c.loop-rest.invariant.seconds c.in_ok-frame.ensures.seconds);
      counted = omega (arith, size, some, c.loop-rest.invariant.counted, c.in_ok-frame.ensures.there);
    }
