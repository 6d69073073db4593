-- The rounds of a capture as they are made, frame by frame.
use Rattle.std.specs.Prelude.{ℕ, ◌-◌, ◌^◌, List, length, min, Result, Ok, Err}
use Rattle.lvs_types.specs.declared.capture.Frame.{Frame}
use Rattle.lvs_types.specs.declared.script.Round.{Round}
use Rattle.lvs_model.specs.declared.capture.BadCapture.{BadCapture}
use Rattle.lvs_model.specs.Captured.{packets_from}
use Rattle.lvs_model.specs.ScriptLimits.{items_in}
use Rattle.lvs_pcap.specs.declared.packets.FrameRule.{FrameRule}
use Rattle.lvs_pcap.specs.Making.{Made, none_made, rounds_made, with_packets}

-- the packets of frames, the first of which has that number and stands behind that moment
abbrev pub with_frames : FrameRule → ℕ → ℕ → List Frame → Made → Result Made BadCapture
with_frames rule at before frames m = with_packets rule.net rule.bits (packets_from rule.link rule.step at before frames) m

-- nothing was made behind these rounds; the count of their items stands still at the end of its type
abbrev pub none_made_behind : List Round → Made
none_made_behind rounds = none_made (length rounds) (min (items_in rounds) (2 ^ 64 - 1))

-- the rounds that were made, or the refusal
abbrev pub rounds_result : Result Made BadCapture → Result (List Round) BadCapture
rounds_result (Ok m) = Ok (rounds_made m)
rounds_result (Err bad) = Err bad
