-- A captured script is printed as a text that is read as it.
use Rattle.std.proofs.Common.{◌≡◌, ◌≢◌, ℕ, zero, suc, ◌+◌, ◌≤◌, ◌<◌, ◌==◌, Bool, true, false, ◌&&◌, cond, nat_lt, List, [], ◌∷◌, ◌++◌, length, take, drop, Option, Some, None, Result, Ok, Err, refl, sym, subst, ◌∙◌, arith}
use Rattle.std.proofs.lemmas.Bool.Decides.{nat_tests}
use Rattle.hex.specs.Hex.{IsBytes}
use Rattle.lvs_types.specs.declared.addr.Addr.{Addr}
use Rattle.lvs_types.specs.declared.capture.Capture.{Capture}
use Rattle.lvs_types.specs.declared.capture.Frame.{Frame}
use Rattle.lvs_types.specs.declared.script.Script.{Script}
use Rattle.lvs_types.specs.declared.script.Round.{Round}
use Rattle.lvs_types.specs.declared.script.ScriptLine.{ScriptLine}
use Rattle.lvs_types.specs.declared.script.ScriptLine.TheVariants as line
use Rattle.lvs_types.specs.declared.status.Status.{Status}
use Rattle.lvs_model.specs.declared.capture.BadCapture.{BadCapture}
use Rattle.lvs_model.specs.declared.script.BadLine.{BadLine}
use Rattle.lvs_model.specs.CaptureFiles.{ip_of, is_ipv4, raw_ip, ethernet}
use Rattle.lvs_model.specs.Captured.{CapturedPacket, moment_after, packet_then, packets_from, packets_behind, is_outgoing, packet_line, line_before, rounds_of, first_refusal, with_rounds, last_moment, captured}
use Rattle.lvs_model.specs.ScriptLimits.{items_in, IsWithinLimits}
use Rattle.lvs_model.specs.Scripts.{script_of}
use Rattle.lvs_model.specs.Tasks.{script_behind}
use Rattle.lvs_tidy.specs.ScriptTexts.{script_text}
use Rattle.lvs_tidy.proofs.Packets.{incoming_made, outgoing_made}
use Rattle.lvs_tidy.proofs.Printed.{IsPrinted}
use Rattle.lvs_tidy.proofs.MoreRounds.{AreRising, AreAllPrinted, behind, behind_again}
use Rattle.lvs_tidy_run.specs.Made.{HasBytes, AllHaveBytes}

-- MOMENTS

-- the moments of packets don't fall, from a moment on
abbrev AreLater : ℕ → List CapturedPacket → Type 0
AreLater before [] = Unit {0}
AreLater before (packet ∷ packets) = (before ≤ packet.moment) × AreLater packet.moment packets

not_before : (step before seconds : ℕ) → before ≤ moment_after step before seconds
not_before step before seconds = omega arith

later_then : (o : Option (List ℕ)) (at before moment : ℕ) (later : ℕ → List CapturedPacket) → before ≤ moment → ((m : ℕ) → AreLater m (later m)) → AreLater before (packet_then at before moment o later)
later_then None at before moment later is each = each before
later_then (Some bytes) at before moment later is each = (is, each moment)

later_packets : (link step at before : ℕ) (frames : List Frame) → AreLater before (packets_from link step at before frames)
later_packets link step at before [] = tt
later_packets link step at before (frame ∷ frames) =
    later_then (ip_of link frame) at before (moment_after step before frame.seconds) (λ moment. packets_from link step (at + 1) moment frames) (not_before step before frame.seconds) (λ m. later_packets link step (at + 1) m frames)

same_moment : (moment next : ℕ) → moment ≤ next → nat_lt moment next ≡ false → next ≡ moment
same_moment moment next is not = grind (arith, nat_tests)

abbrev line_by : Bool → ℕ → ScriptLine → Round → List Round → List Round
line_by b moment l next rounds = cond b (record { moment = moment; lines = l ∷ [] } ∷ next ∷ rounds) (record { moment = moment; lines = l ∷ next.lines } ∷ rounds)

rising_by : (b : Bool) (before moment : ℕ) (l : ScriptLine) (next : Round) (rounds : List Round) → nat_lt moment next.moment ≡ b → before ≤ moment → AreRising moment (next ∷ rounds) → AreRising before (line_by b moment l next rounds)
rising_by true before moment l next rounds is low are = (low, are)
rising_by false before moment l next rounds is low are = (low, subst (λ (m : ℕ). AreRising m rounds) (same_moment moment next.moment are.0 is) are.1)

rising_before : (before moment : ℕ) (l : ScriptLine) (rounds : List Round) → before ≤ moment → AreRising moment rounds → AreRising before (line_before moment l rounds)
rising_before before moment l [] low are = (low, tt)
rising_before before moment l (next ∷ rounds) low are = rising_by (nat_lt moment next.moment) before moment l next rounds refl low are

rising_rounds : (net : Addr) (bits before : ℕ) (packets : List CapturedPacket) → AreLater before packets → AreRising before (rounds_of net bits packets)
rising_rounds net bits before [] are = tt
rising_rounds net bits before (packet ∷ packets) are =
    rising_before before packet.moment (packet_line net bits packet.bytes) (rounds_of net bits packets) are.0 (rising_rounds net bits packet.moment packets are.1)

-- BYTES

bytes_cons : (x : ℕ) (xs : List ℕ) → x < 256 → IsBytes xs → IsBytes (x ∷ xs)
bytes_cons x xs small are zero = small
bytes_cons x xs small are (suc i) = are i

pub bytes_drop : (n : ℕ) (xs : List ℕ) → IsBytes xs → IsBytes (drop n xs)
bytes_drop zero xs are = are
bytes_drop (suc n) [] are = are
bytes_drop (suc n) (x ∷ xs) are = bytes_drop n xs (λ i. are (suc i))

no_bytes : IsBytes []
no_bytes i = omega arith

pub bytes_take : (n : ℕ) (xs : List ℕ) → IsBytes xs → IsBytes (take n xs)
bytes_take zero xs are = no_bytes
bytes_take (suc n) [] are = are
bytes_take (suc n) (x ∷ xs) are = bytes_cons x (take n xs) (are 0) (bytes_take n xs (λ i. are (suc i)))

-- the frames hold bytes
abbrev pub HoldBytes : List Frame → Type 0
HoldBytes [] = Unit {0}
HoldBytes (frame ∷ frames) = IsBytes frame.bytes × HoldBytes frames

abbrev IsBytesIf : Option (List ℕ) → Type 0
IsBytesIf None = Unit {0}
IsBytesIf (Some bytes) = IsBytes bytes

ip_by : (raw other : Bool) (bytes : List ℕ) → IsBytes bytes → IsBytesIf (cond raw (Some bytes) (cond other (Some (drop 14 bytes)) None))
ip_by true other bytes are = are
ip_by false true bytes are = bytes_drop 14 bytes are
ip_by false false bytes are = tt

ip_bytes : (link : ℕ) (frame : Frame) → IsBytes frame.bytes → IsBytesIf (ip_of link frame)
ip_bytes link frame are = ip_by (link == raw_ip) ((link == ethernet) && is_ipv4 frame.bytes) frame.bytes are

-- the packets are bytes
abbrev AllBytes : List CapturedPacket → Type 0
AllBytes [] = Unit {0}
AllBytes (packet ∷ packets) = IsBytes packet.bytes × AllBytes packets

bytes_then : (o : Option (List ℕ)) (at before moment : ℕ) (later : ℕ → List CapturedPacket) → IsBytesIf o → ((m : ℕ) → AllBytes (later m)) → AllBytes (packet_then at before moment o later)
bytes_then None at before moment later is each = each before
bytes_then (Some bytes) at before moment later is each = (is, each moment)

bytes_packets : (link step at before : ℕ) (frames : List Frame) → HoldBytes frames → AllBytes (packets_from link step at before frames)
bytes_packets link step at before [] are = tt
bytes_packets link step at before (frame ∷ frames) are =
    bytes_then (ip_of link frame) at before (moment_after step before frame.seconds) (λ moment. packets_from link step (at + 1) moment frames) (ip_bytes link frame are.0) (λ m. bytes_packets link step (at + 1) m frames are.1)

-- LINES

some_length : (bytes : List ℕ) → bytes ≢ [] → (length bytes == 0) ≡ false
some_length [] some = absurd (some refl)
some_length (b ∷ bytes) some = grind (arith, nat_tests)

line_is_printed : (out : Bool) (bytes : List ℕ) → IsBytes bytes → HasBytes (cond out (line.Outgoing bytes) (line.Incoming 0 bytes)) → IsPrinted (cond out (line.Outgoing bytes) (line.Incoming 0 bytes))
line_is_printed true bytes are some = outgoing_made bytes (record { some = some_length bytes some; all = are })
line_is_printed false bytes are some = incoming_made 0 bytes (omega arith) (record { some = some_length bytes some; all = are })

printed_by : (b : Bool) (moment : ℕ) (l : ScriptLine) (next : Round) (rounds : List Round) → (HasBytes l → IsPrinted l) → (AllHaveBytes (next ∷ rounds) → AreAllPrinted (next ∷ rounds)) → AllHaveBytes (line_by b moment l next rounds) → AreAllPrinted (line_by b moment l next rounds)
printed_by true moment l next rounds first others have = ((first have.0.0, tt), others have.1)
printed_by false moment l next rounds first others have =
    let more : AreAllPrinted (next ∷ rounds) = others (have.0.1, have.1) in
    ((first have.0.0, more.0), more.1)

printed_before : (moment : ℕ) (l : ScriptLine) (rounds : List Round) → (HasBytes l → IsPrinted l) → (AllHaveBytes rounds → AreAllPrinted rounds) → AllHaveBytes (line_before moment l rounds) → AreAllPrinted (line_before moment l rounds)
printed_before moment l [] first others have = ((first have.0.0, tt), tt)
printed_before moment l (next ∷ rounds) first others have = printed_by (nat_lt moment next.moment) moment l next rounds first others have

printed_rounds : (net : Addr) (bits : ℕ) (packets : List CapturedPacket) → AllBytes packets → AllHaveBytes (rounds_of net bits packets) → AreAllPrinted (rounds_of net bits packets)
printed_rounds net bits [] are have = tt
printed_rounds net bits (packet ∷ packets) are have =
    printed_before packet.moment (packet_line net bits packet.bytes) (rounds_of net bits packets) (line_is_printed (is_outgoing net bits packet.bytes) packet.bytes are.0) (printed_rounds net bits packets are.1) have

-- THE CAPTURED SCRIPT

last_have : (xs ys : List Round) → AllHaveBytes (xs ++ ys) → AllHaveBytes ys
last_have [] ys have = have
last_have (x ∷ xs) ys have = last_have xs ys have.1

whole_is : (script whole : Script) (made : List Round) (o : Option BadCapture) → with_rounds script made o ≡ Ok whole → behind script made ≡ whole
whole_is script whole made None is = cc
whole_is script whole made (Some bad) is = absurd cc

pub captured_again : (given : List ℕ) (net : Addr) (bits step : ℕ) (script whole : Script) (capture : Capture) → script_of given ≡ Ok script → captured net bits step script capture ≡ Ok whole → IsWithinLimits whole.rounds → HoldBytes capture.frames → AllHaveBytes whole.rounds → script_of (script_text whole) ≡ Ok whole
captured_again given net bits step script whole capture read is within hold have =
    let packets : List CapturedPacket = packets_behind step script capture in
    let made : List Round = rounds_of net bits packets in
    let same : behind script made ≡ whole = whole_is script whole made (first_refusal net bits (length script.rounds) (items_in script.rounds) [] packets) is in
    let limits : IsWithinLimits (script.rounds ++ made) = subst (λ (s : Script). IsWithinLimits s.rounds) (sym same) within in
    let full : AllHaveBytes (script.rounds ++ made) = subst (λ (s : Script). AllHaveBytes s.rounds) (sym same) have in
    let rising : AreRising (last_moment script.rounds) made = rising_rounds net bits (last_moment script.rounds) packets (later_packets capture.link step 1 (last_moment script.rounds) capture.frames) in
    let printed : AreAllPrinted made = printed_rounds net bits packets (bytes_packets capture.link step 1 (last_moment script.rounds) capture.frames hold) (last_have script.rounds made full) in
    subst (λ (s : Script). script_of (script_text s) ≡ Ok s) same (behind_again given script made read limits rising printed)

-- a script that a text was found to spell
pub given_is : (r : Result Script BadLine) (script : Script) → script_behind 0 r ≡ Ok script → r ≡ Ok script
given_is (Ok other) script e = cc
given_is (Err bad) script e = absurd cc

-- one script is made
pub again_of : (r : Result Script Status) (found script : Script) → r ≡ Ok found → r ≡ Ok script → (AllHaveBytes found.rounds → script_of (script_text found) ≡ Ok found) → AllHaveBytes script.rounds → script_of (script_text script) ≡ Ok script
again_of r found script one two again =
    let both : ◌≡◌ {A = Result Script Status} (Ok found) (Ok script) = sym one ∙ two in
    let same : found ≡ script = cc in
    subst (λ (s : Script). AllHaveBytes s.rounds → script_of (script_text s) ≡ Ok s) same again
