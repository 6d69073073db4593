-- A captured script is within the limits of scripts.
use Rattle.std.proofs.Common.{◌≡◌, ◌∙◌, ℕ, zero, suc, ◌+◌, ◌-◌, ◌*◌, ◌≤◌, ◌<◌, Bool, true, false, cond, nat_lt, List, [], ◌∷◌, ◌++◌, length, Option, Some, None, Result, Ok, Err, refl, ap, sym, subst, arith, append_assoc, length-append}
use Rattle.std.specs.Prelude.{if◌then◌else◌, slice_get}
use Rattle.std.specs.Option.{option_map_or}
use Rattle.std.proofs.lemmas.Bool.Decides.{nat_tests}
use Rattle.lvs_types.specs.Limits.{max_items, max_rounds, max_moment}
use Rattle.lvs_types.specs.declared.addr.Addr.{Addr}
use Rattle.lvs_types.specs.declared.capture.Capture.{Capture}
use Rattle.lvs_types.specs.declared.capture.CaptureCause.{CaptureCause}
use Rattle.lvs_types.specs.declared.capture.CaptureCause.TheVariants.{TooManyRounds, TooManyItems}
use Rattle.lvs_types.specs.declared.capture.Frame.{Frame}
use Rattle.lvs_types.specs.declared.script.Round.{Round}
use Rattle.lvs_types.specs.declared.script.Script.{Script}
use Rattle.lvs_types.specs.declared.script.ScriptLine.{ScriptLine}
use Rattle.lvs_types.specs.declared.script.ScriptLine.TheVariants as line
use Rattle.lvs_model.specs.declared.capture.BadCapture.{BadCapture}
use Rattle.lvs_model.specs.CaptureFiles.{ip_of}
use Rattle.lvs_model.specs.Captured.{CapturedPacket, packet_then, packets_from, packet_line, is_outgoing, line_before, rounds_of, refusal_or, cause_behind, first_refusal, moment_after, last_moment, with_rounds, packets_behind, captured}
use Rattle.lvs_model.specs.Plans.{items_of_line, items_of_lines}
use Rattle.lvs_model.specs.ScriptLimits.{AreMoments, items_in, IsWithinLimits}
use Rattle.lvs_pcap.specs.Reading.{AreInSeconds}

-- one more frame
pub seconds_push : (frames : List Frame) (frame : Frame) → AreInSeconds frames → frame.seconds ≤ max_moment → AreInSeconds (frames ++ frame ∷ [])
seconds_push [] frame are is = (is, tt)
seconds_push (first ∷ frames) frame are is = (are.0, seconds_push frames frame are.1 is)

-- MOMENTS

abbrev AreEarly : List CapturedPacket → Type 0
AreEarly [] = Unit {0}
AreEarly (packet ∷ packets) = (packet.moment ≤ max_moment) × AreEarly packets

moment_low : (step before seconds : ℕ) → before ≤ max_moment → seconds ≤ max_moment → moment_after step before seconds ≤ max_moment
moment_low step before seconds early low = omega arith

early_then : (o : Option (List ℕ)) (at before moment : ℕ) (later : ℕ → List CapturedPacket) → before ≤ max_moment → moment ≤ max_moment → ((m : ℕ) → m ≤ max_moment → AreEarly (later m)) → AreEarly (packet_then at before moment o later)
early_then None at before moment later early low each = each before early
early_then (Some bytes) at before moment later early low each = (low, each moment low)

early_packets : (link step at before : ℕ) (frames : List Frame) → before ≤ max_moment → AreInSeconds frames → AreEarly (packets_from link step at before frames)
early_packets link step at before [] early are = tt
early_packets link step at before (frame ∷ frames) early are =
    let low = moment_low step before frame.seconds early are.0 in
    early_then (ip_of link frame) at before (moment_after step before frame.seconds) (λ moment. packets_from link step (at + 1) moment frames) early low (λ m is. early_packets link step (at + 1) m frames is are.1)

abbrev alone : ℕ → ScriptLine → Round
alone moment l = record { moment = moment; lines = l ∷ [] }

abbrev in_front : ℕ → ScriptLine → Round → Round
in_front moment l next = record { moment = moment; lines = l ∷ next.lines }

-- a line before rounds, by whether it stands alone
abbrev line_by : Bool → ℕ → ScriptLine → Round → List Round → List Round
line_by b moment l next rounds = if b then alone moment l ∷ next ∷ rounds else in_front moment l next ∷ rounds

moments_by : (b : Bool) (moment : ℕ) (l : ScriptLine) (next : Round) (rounds : List Round) → moment ≤ max_moment → AreMoments (next ∷ rounds) → AreMoments (line_by b moment l next rounds)
moments_by true moment l next rounds low are = (low, are)
moments_by false moment l next rounds low are = (low, are.1)

moments_before : (moment : ℕ) (l : ScriptLine) (rounds : List Round) → moment ≤ max_moment → AreMoments rounds → AreMoments (line_before moment l rounds)
moments_before moment l [] low are = (low, tt)
moments_before moment l (next ∷ rounds) low are = moments_by (nat_lt moment next.moment) moment l next rounds low are

moments_of : (net : Addr) (bits : ℕ) (packets : List CapturedPacket) → AreEarly packets → AreMoments (rounds_of net bits packets)
moments_of net bits [] early = tt
moments_of net bits (packet ∷ packets) early =
    moments_before packet.moment (packet_line net bits packet.bytes) (rounds_of net bits packets) early.0 (moments_of net bits packets early.1)

moments_append : (xs ys : List Round) → AreMoments xs → AreMoments ys → AreMoments (xs ++ ys)
moments_append [] ys a b = b
moments_append (x ∷ xs) ys a b = (a.0, moments_append xs ys a.1 b)

round_low : (rounds : List Round) (i : ℕ) → AreMoments rounds → option_map_or (λ (round : Round). round.moment) (slice_get rounds i) 0 ≤ max_moment
round_low [] i are = omega arith
round_low (round ∷ rounds) zero are = are.0
round_low (round ∷ rounds) (suc i) are = round_low rounds i are.1

last_low : (rounds : List Round) → AreMoments rounds → last_moment rounds ≤ max_moment
last_low rounds are = round_low rounds (length rounds - 1) are

-- ITEMS

item_of : (b : Bool) (bytes : List ℕ) → length (items_of_line (if b then line.Outgoing bytes else line.Incoming 0 bytes)) ≡ 1
item_of true bytes = refl
item_of false bytes = refl

-- the line of a packet is one item
one_item : (net : Addr) (bits : ℕ) (bytes : List ℕ) → length (items_of_line (packet_line net bits bytes)) ≡ 1
one_item net bits bytes = item_of (is_outgoing net bits bytes) bytes

items_by : (b : Bool) (moment : ℕ) (l : ScriptLine) (next : Round) (rounds : List Round) → items_in (line_by b moment l next rounds) ≡ length (items_of_line l) + items_in (next ∷ rounds)
items_by true moment l next rounds = omega (arith, length-append (items_of_line l) [])
items_by false moment l next rounds = omega (arith, length-append (items_of_line l) (items_of_lines next))

items_before : (moment : ℕ) (l : ScriptLine) (rounds : List Round) → items_in (line_before moment l rounds) ≡ length (items_of_line l) + items_in rounds
items_before moment l [] = omega (arith, length-append (items_of_line l) [])
items_before moment l (next ∷ rounds) = items_by (nat_lt moment next.moment) moment l next rounds

items_of_packets : (net : Addr) (bits : ℕ) (packets : List CapturedPacket) → items_in (rounds_of net bits packets) ≡ length packets
items_of_packets net bits [] = refl
items_of_packets net bits (packet ∷ packets) =
    let later = items_of_packets net bits packets in
    omega (arith, items_before packet.moment (packet_line net bits packet.bytes) (rounds_of net bits packets), one_item net bits packet.bytes, later)

items_append : (xs ys : List Round) → items_in (xs ++ ys) ≡ items_in xs + items_in ys
items_append [] ys = omega arith
items_append (x ∷ xs) ys = omega (arith, items_append xs ys)

-- NOTHING IS REFUSED

calm : (at : ℕ) (o : Option CaptureCause) (later : Option BadCapture) → refusal_or at o later ≡ None → (o ≡ None) × (later ≡ None)
calm at None later is = (refl, is)
calm at (Some why) later is = cc

both_pass : (b c : Bool) → (if b then Some TooManyRounds else if c then Some TooManyItems else None) ≡ None → (b ≡ false) × (c ≡ false)
both_pass true c is = cc
both_pass false true is = cc
both_pass false false is = (refl, refl)

fits : (most n : ℕ) → nat_lt most n ≡ false → n ≤ most
fits most n is = grind (arith, nat_tests)

abbrev HasRoom : Addr → ℕ → ℕ → ℕ → List CapturedPacket → Type 0
HasRoom net bits rounds items packets = (rounds + length (rounds_of net bits packets) ≤ max_rounds) × (items + length packets ≤ max_items)

has_room : (net : Addr) (bits rounds items : ℕ) (packets : List CapturedPacket) → cause_behind rounds items (rounds_of net bits packets) packets ≡ None → HasRoom net bits rounds items packets
has_room net bits rounds items packets none =
    let both = both_pass (nat_lt max_rounds (rounds + length (rounds_of net bits packets))) (nat_lt max_items (items + length packets)) none in
    (fits max_rounds (rounds + length (rounds_of net bits packets)) both.0, fits max_items (items + length packets) both.1)

-- the last packet is the one that has to fit
all_fit : (net : Addr) (bits rounds items : ℕ) (before : List CapturedPacket) (packet : CapturedPacket) (packets : List CapturedPacket) → first_refusal net bits rounds items before (packet ∷ packets) ≡ None → HasRoom net bits rounds items (before ++ packet ∷ packets)
all_fit net bits rounds items before packet [] none =
    has_room net bits rounds items (before ++ packet ∷ []) (calm packet.at (cause_behind rounds items (rounds_of net bits (before ++ packet ∷ [])) (before ++ packet ∷ [])) None none).0
all_fit net bits rounds items before packet (next ∷ packets) none =
    let upto : List CapturedPacket = before ++ packet ∷ [] in
    let later = (calm packet.at (cause_behind rounds items (rounds_of net bits upto) upto) (first_refusal net bits rounds items upto (next ∷ packets)) none).1 in
    subst (HasRoom net bits rounds items) (append_assoc before (packet ∷ []) (next ∷ packets)) (all_fit net bits rounds items upto next packets later)

-- THE CAPTURED SCRIPT

abbrev behind : Script → List Round → Script
behind script made = record script { rounds = script.rounds ++ made }

made_of : (script whole : Script) (made : List Round) (o : Option BadCapture) → with_rounds script made o ≡ Ok whole → (o ≡ None) × (behind script made ≡ whole)
made_of script whole made None is = (refl, cc)
made_of script whole made (Some bad) is = cc

room_of : (net : Addr) (bits : ℕ) (rounds : List Round) (packets : List CapturedPacket) → IsWithinLimits rounds → first_refusal net bits (length rounds) (items_in rounds) [] packets ≡ None → HasRoom net bits (length rounds) (items_in rounds) packets
room_of net bits rounds [] within none = (omega (arith, within.few), omega (arith, within.items))
room_of net bits rounds (packet ∷ packets) within none = all_fit net bits (length rounds) (items_in rounds) [] packet packets none

within_made : (net : Addr) (bits : ℕ) (rounds : List Round) (packets : List CapturedPacket) → IsWithinLimits rounds → AreEarly packets → HasRoom net bits (length rounds) (items_in rounds) packets → IsWithinLimits (rounds ++ rounds_of net bits packets)
within_made net bits rounds packets within early room = record {
  moments = moments_append rounds (rounds_of net bits packets) within.moments (moments_of net bits packets early);
  items = omega (arith, items_append rounds (rounds_of net bits packets), items_of_packets net bits packets, room.1);
  few = omega (arith, length-append rounds (rounds_of net bits packets), room.0);
}

pub within_captured : (net : Addr) (bits step : ℕ) (script whole : Script) (capture : Capture) → captured net bits step script capture ≡ Ok whole → IsWithinLimits script.rounds → AreInSeconds capture.frames → IsWithinLimits whole.rounds
within_captured net bits step script whole capture is within are =
    let packets : List CapturedPacket = packets_behind step script capture in
    let made = made_of script whole (rounds_of net bits packets) (first_refusal net bits (length script.rounds) (items_in script.rounds) [] packets) is in
    let early : AreEarly packets = early_packets capture.link step 1 (last_moment script.rounds) capture.frames (last_low script.rounds within.moments) are in
    subst (λ (s : Script). IsWithinLimits s.rounds) made.1 (within_made net bits script.rounds packets within early (room_of net bits script.rounds packets within made.0))
