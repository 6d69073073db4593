-- Frames one after the other, and the captured script that they end in.
use Rattle.std.proofs.Common.{◌≡◌, ◌∙◌, ℕ, ◌+◌, ◌-◌, ◌^◌, ◌<◌, slice_index_or, drop, add-one, drop-cons, List, [], ◌∷◌, ◌++◌, length, Option, Some, None, Result, Ok, Err, refl, ap, sym}
use Rattle.std.specs.Prelude.{min}
use Rattle.lvs_types.specs.declared.addr.Addr.{Addr}
use Rattle.lvs_types.specs.declared.capture.Capture.{Capture}
use Rattle.lvs_types.specs.declared.capture.Frame.{Frame}
use Rattle.lvs_types.specs.declared.script.Round.{Round}
use Rattle.lvs_types.specs.declared.script.Script.{Script}
use Rattle.lvs_model.specs.declared.capture.BadCapture.{BadCapture}
use Rattle.lvs_model.specs.CaptureFiles.{ip_of}
use Rattle.lvs_model.specs.Captured.{captured, first_refusal, last_moment, moment_after, packet_line, packets_behind, packets_from, rounds_of, with_rounds}
use Rattle.lvs_model.specs.ScriptLimits.{items_in}
use Rattle.lvs_pcap.specs.declared.packets.FrameRule.{FrameRule}
use Rattle.lvs_pcap.specs.Frames.{with_frames, rounds_result, none_made_behind}
use Rattle.lvs_pcap.specs.Reading.{IsRefusal}
use Rattle.lvs_pcap.specs.declared.refused.CaptureRefused.{CaptureRefused}
use Rattle.lvs_pcap.specs.declared.refused.CaptureRefused.TheVariants.{Refused, NoMemory}
use Rattle.lvs_pcap.specs.Making.{Made, with_packet, with_packets}
use Rattle.lvs_pcap.proofs.RoundLemmas.{unless, packets_rise, all_added, same_refusals}

pub frame_skipped : (rule : FrameRule) (at before : ℕ) (frame : Frame) (later : List Frame) (m : Made) → None ≡ ip_of rule.link frame → with_frames rule at before (frame ∷ later) m ≡ with_frames rule (at + 1) before later m
frame_skipped rule at before frame later m none = rw (← none) refl

pub frame_taken : (rule : FrameRule) (at before : ℕ) (frame : Frame) (bytes : List ℕ) (later : List Frame) (m next : Made) → Some bytes ≡ ip_of rule.link frame → with_packet at (moment_after rule.step before frame.seconds) (packet_line rule.net rule.bits bytes) m ≡ Ok next → with_frames rule at before (frame ∷ later) m ≡ with_frames rule (at + 1) (moment_after rule.step before frame.seconds) later next
frame_taken rule at before frame bytes later m next some taken = rw (← some, taken) refl

pub frame_refused : (rule : FrameRule) (at before : ℕ) (frame : Frame) (bytes : List ℕ) (later : List Frame) (m : Made) (bad : BadCapture) → Some bytes ≡ ip_of rule.link frame → with_packet at (moment_after rule.step before frame.seconds) (packet_line rule.net rule.bits bytes) m ≡ Err bad → with_frames rule at before (frame ∷ later) m ≡ Err bad
frame_refused rule at before frame bytes later m bad some taken = rw (← some, taken) refl

-- the rounds of all frames behind those of a script, or the refusal
pub frames_end : (rule : FrameRule) (script : List Round) (frames : List Frame) → rounds_result (with_frames rule 1 (last_moment script) frames (none_made_behind script)) ≡ unless (rounds_of rule.net rule.bits (packets_from rule.link rule.step 1 (last_moment script) frames)) (first_refusal rule.net rule.bits (length script) (items_in script) [] (packets_from rule.link rule.step 1 (last_moment script) frames))
frames_end rule script frames =
    let packets = packets_from rule.link rule.step 1 (last_moment script) frames in
    all_added rule.net rule.bits (length script) (min (items_in script) (2 ^ 64 - 1)) (last_moment script) packets (packets_rise rule.link rule.step 1 (last_moment script) frames) ∙ ap (λ o. unless (rounds_of rule.net rule.bits packets) o) (same_refusals rule.net rule.bits (length script) (items_in script) [] packets)

unless_rounds : (script : Script) (rounds made : List Round) (o : Option BadCapture) → Ok rounds ≡ unless made o → with_rounds script made o ≡ Ok (record script { rounds = script.rounds ++ rounds })
unless_rounds script rounds made None is = let same : rounds ≡ made = cc in rw same refl
unless_rounds script rounds made (Some bad) is = absurd cc

unless_bad : (script : Script) (made : List Round) (bad : BadCapture) (o : Option BadCapture) → Err bad ≡ unless made o → with_rounds script made o ≡ Err bad
unless_bad script made bad None is = absurd cc
unless_bad script made bad (Some other) is = let same : bad ≡ other = cc in rw same refl

result_bad : (r : Result Made BadCapture) (bad : BadCapture) → r ≡ Err bad → Err bad ≡ rounds_result r
result_bad r bad is = rw is refl

-- how the frames of a capture become lines
abbrev pub rule_of : Addr → ℕ → ℕ → Capture → FrameRule
rule_of net bits step capture = record { link = capture.link; net = net; bits = bits; step = step }

pub script_made : (net : Addr) (bits step : ℕ) (script : Script) (capture : Capture) (rounds : List Round) → rounds_result (with_frames (rule_of net bits step capture) 1 (last_moment script.rounds) capture.frames (none_made_behind script.rounds)) ≡ Ok rounds → captured net bits step script capture ≡ Ok (record script { rounds = script.rounds ++ rounds })
script_made net bits step script capture rounds made =
    unless_rounds script rounds _ _ (sym made ∙ frames_end (rule_of net bits step capture) script.rounds capture.frames)

pub script_refused : (net : Addr) (bits step : ℕ) (script : Script) (capture : Capture) (refused : CaptureRefused) → IsRefusal (with_frames (rule_of net bits step capture) 1 (last_moment script.rounds) capture.frames (none_made_behind script.rounds)) refused → IsRefusal (captured net bits step script capture) refused
script_refused net bits step script capture (Refused at cause) is =
    unless_bad script _ (record { at = at; cause = cause }) _ (result_bad _ (record { at = at; cause = cause }) is ∙ frames_end (rule_of net bits step capture) script.rounds capture.frames)
script_refused net bits step script capture NoMemory is = tt

-- A LOOP OVER FRAMES

pub stop_frames : (rule : FrameRule) (at before : ℕ) (left later : List Frame) (frame : Frame) (m : Made) (whole : Result Made BadCapture) (refused : CaptureRefused) → left ≡ frame ∷ later → with_frames rule at before left m ≡ whole → ((more : List Frame) → IsRefusal (with_frames rule at before (frame ∷ more) m) refused) → IsRefusal whole refused
stop_frames rule at before left later frame m whole refused is so_far stops =
    let parts : with_frames rule at before (frame ∷ later) m ≡ whole = rw is at so_far in
    rw parts at (stops later)
