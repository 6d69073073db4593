-- Packets added one after the other make the rounds of all of them, up to the first that is refused.
use Rattle.std.proofs.Common.{◌≡◌, ◌∙◌, ℕ, suc, ◌+◌, ◌-◌, ◌^◌, ◌<◌, ◌≤◌, Bool, true, false, cond, nat_lt, List, [], ◌∷◌, ◌++◌, length, Option, Some, None, Result, Ok, Err, refl, ap, sym, arith, append_assoc, append-nil, length-append}
use Rattle.std.specs.Prelude.{if◌then◌else◌, min, max}
use Rattle.std.proofs.lemmas.Bool.Decides.{nat_tests}
use Rattle.lvs_types.specs.Limits.{max_items, max_rounds}
use Rattle.lvs_types.specs.declared.addr.Addr.{Addr}
use Rattle.lvs_types.specs.declared.capture.CaptureCause.{CaptureCause}
use Rattle.lvs_types.specs.declared.capture.CaptureCause.TheVariants.{TooManyRounds, TooManyItems}
use Rattle.lvs_types.specs.declared.capture.Frame.{Frame}
use Rattle.lvs_types.specs.declared.script.Round.{Round}
use Rattle.lvs_types.specs.declared.script.ScriptLine.{ScriptLine}
use Rattle.lvs_model.specs.declared.capture.BadCapture.{BadCapture}
use Rattle.lvs_model.specs.CaptureFiles.{refused_at, ip_of}
use Rattle.lvs_model.specs.Captured.{CapturedPacket, packet_then, packets_from, packet_line, line_before, rounds_of, refusal_or, cause_behind, first_refusal, moment_after}
use Rattle.lvs_model.specs.Refusals.{◌>>=◌}
use Rattle.lvs_model.specs.Scripts.{open_round}
use Rattle.lvs_pcap.specs.Frames.{rounds_result}
use Rattle.lvs_pcap.specs.Making.{Made, none_made, rounds_made, begins, with_round, with_moment, with_line, checked, with_packet, with_packets}

-- HOW MANY ROUNDS PACKETS MAKE

abbrev pub one_if : Bool → ℕ
one_if true = 1
one_if false = 0

-- the moment of the last packet
abbrev pub last_of : Option ℕ → List CapturedPacket → Option ℕ
last_of last [] = last
last_of last (packet ∷ packets) = last_of (Some packet.moment) packets

-- how many packets have a later moment than the one before
abbrev pub begun : Option ℕ → List CapturedPacket → ℕ
begun last [] = 0
begun last (packet ∷ packets) = one_if (begins packet.moment last) + begun (Some packet.moment) packets

length_chosen : (b : Bool) (x y z : Round) (rounds : List Round) → length (if b then x ∷ y ∷ rounds else z ∷ rounds) ≡ one_if b + suc (length rounds)
length_chosen true x y z rounds = omega arith
length_chosen false x y z rounds = omega arith

-- a line before a round that begins at that moment, whatever its lines are
length_front : (c : Bool) (m q : ℕ) (l : ScriptLine) (lines joined : List ScriptLine) (r : Round) (rounds : List Round) → length (line_before m l (if c then record { moment = q; lines = lines } ∷ r ∷ rounds else record { moment = q; lines = joined } ∷ rounds)) ≡ one_if (nat_lt m q) + length (if c then record { moment = q; lines = lines } ∷ r ∷ rounds else record { moment = q; lines = joined } ∷ rounds)
length_front true m q l lines joined r rounds = length_chosen (nat_lt m q) _ _ _ (r ∷ rounds)
length_front false m q l lines joined r rounds = length_chosen (nat_lt m q) _ _ _ rounds

length_before : (m q : ℕ) (l k : ScriptLine) (rounds : List Round) → length (line_before m l (line_before q k rounds)) ≡ one_if (nat_lt m q) + length (line_before q k rounds)
length_before m q l k [] = length_chosen (nat_lt m q) _ _ _ []
length_before m q l k (r ∷ rounds) = length_front (nat_lt q r.moment) m q l (k ∷ []) (k ∷ r.lines) r rounds

length_rounds : (net : Addr) (bits : ℕ) (packet : CapturedPacket) (packets : List CapturedPacket) → length (rounds_of net bits (packet ∷ packets)) ≡ 1 + begun (Some packet.moment) packets
length_rounds net bits packet [] = refl
length_rounds net bits packet (next ∷ packets) =
    let here : length (rounds_of net bits (packet ∷ next ∷ packets)) ≡ one_if (nat_lt packet.moment next.moment) + length (rounds_of net bits (next ∷ packets)) = length_before packet.moment next.moment (packet_line net bits packet.bytes) (packet_line net bits next.bytes) (rounds_of net bits packets) in
    let later : length (rounds_of net bits (next ∷ packets)) ≡ 1 + begun (Some next.moment) packets = length_rounds net bits next packets in
    omega arith

rounds_begun : (net : Addr) (bits : ℕ) (packets : List CapturedPacket) → length (rounds_of net bits packets) ≡ begun None packets
rounds_begun net bits [] = refl
rounds_begun net bits (packet ∷ packets) = length_rounds net bits packet packets

begun_more : (last : Option ℕ) (before : List CapturedPacket) (packet : CapturedPacket) → begun last (before ++ packet ∷ []) ≡ begun last before + one_if (begins packet.moment (last_of last before))
begun_more last [] packet = omega arith
begun_more last (first ∷ before) packet = let later = begun_more (Some first.moment) before packet in omega arith

last_more : (last : Option ℕ) (before : List CapturedPacket) (packet : CapturedPacket) → last_of last (before ++ packet ∷ []) ≡ Some packet.moment
last_more last [] packet = refl
last_more last (first ∷ before) packet = last_more (Some first.moment) before packet

-- MOMENTS RISE

abbrev pub IsBehind : Option ℕ → ℕ → Type 0
IsBehind None moment = Unit {0}
IsBehind (Some before) moment = before ≤ moment

abbrev pub AreRising : Option ℕ → List CapturedPacket → Type 0
AreRising last [] = Unit {0}
AreRising last (packet ∷ packets) = IsBehind last packet.moment × AreRising (Some packet.moment) packets

then_rising : (o : Option (List ℕ)) (at before moment : ℕ) (later : ℕ → List CapturedPacket) → before ≤ moment → ((m : ℕ) → AreRising (Some m) (later m)) → AreRising (Some before) (packet_then at before moment o later)
then_rising None at before moment later le each = each before
then_rising (Some bytes) at before moment later le each = (le, each moment)

pub packets_rise : (link step at before : ℕ) (frames : List Frame) → AreRising (Some before) (packets_from link step at before frames)
packets_rise link step at before [] = tt
packets_rise link step at before (frame ∷ frames) =
    let le : before ≤ moment_after step before frame.seconds = omega arith in
    then_rising (ip_of link frame) at before (moment_after step before frame.seconds) (λ moment. packets_from link step (at + 1) moment frames) le (λ m. packets_rise link step (at + 1) m frames)

pub rising_from_none : (before : ℕ) (packets : List CapturedPacket) → AreRising (Some before) packets → AreRising None packets
rising_from_none before [] rising = tt
rising_from_none before (packet ∷ packets) rising = (tt, rising.1)

-- ONE MORE PACKET

abbrev pub moved : Bool → ℕ → Made → Made
moved b moment m = if b then with_round moment m else m

moved_rounds : (b : Bool) (moment : ℕ) (m : Made) → (moved b moment m).rounds ≡ m.rounds + one_if b
moved_rounds true moment m = refl
moved_rounds false moment m = omega arith

moved_items : (b : Bool) (moment : ℕ) (m : Made) → (moved b moment m).items ≡ m.items
moved_items true moment m = refl
moved_items false moment m = refl

moved_moment : (b : Bool) (moment : ℕ) (m : Made) → (moved b moment m).moment ≡ cond b (Some moment) m.moment
moved_moment true moment m = refl
moved_moment false moment m = refl

same_if : (b : Bool) (before moment : ℕ) → b ≡ nat_lt before moment → before ≤ moment → cond b (Some moment) (Some before) ≡ Some moment
same_if true before moment is le = refl
same_if false before moment is le = let same : before ≡ moment = grind (arith, nat_tests) in ap Some same

begun_moment : (last : Option ℕ) (moment : ℕ) → IsBehind last moment → cond (begins moment last) (Some moment) last ≡ Some moment
begun_moment None moment behind = refl
begun_moment (Some before) moment behind = same_if (nat_lt before moment) before moment refl behind

-- WHAT IS STILL TO COME

-- the open round in front of the rounds that come
abbrev pub glued : Option ℕ → List ScriptLine → List Round → List Round
glued None lines rounds = rounds
glued (Some moment) lines [] = record { moment = moment; lines = lines } ∷ []
glued (Some moment) lines (next ∷ rounds) =
    if nat_lt moment next.moment then record { moment = moment; lines = lines } ∷ next ∷ rounds
    else record { moment = moment; lines = lines ++ next.lines } ∷ rounds

glued_none : (last : Option ℕ) (lines : List ScriptLine) → open_round last lines ≡ glued last lines []
glued_none None lines = refl
glued_none (Some moment) lines = refl

-- a round that was just begun
glued_one : (moment : ℕ) (l : ScriptLine) (rounds : List Round) → glued (Some moment) (l ∷ []) rounds ≡ line_before moment l rounds
glued_one moment l [] = refl
glued_one moment l (r ∷ rounds) = refl

-- a later round stays behind the open one
chosen_later : (c : Bool) (m q : ℕ) (lines k joined : List ScriptLine) (r : Round) (rounds : List Round) → nat_lt m q ≡ true → glued (Some m) lines (if c then record { moment = q; lines = k } ∷ r ∷ rounds else record { moment = q; lines = joined } ∷ rounds) ≡ record { moment = m; lines = lines } ∷ (if c then record { moment = q; lines = k } ∷ r ∷ rounds else record { moment = q; lines = joined } ∷ rounds)
chosen_later true m q lines k joined r rounds later = rw later refl
chosen_later false m q lines k joined r rounds later = rw later refl

glued_later : (m q : ℕ) (lines : List ScriptLine) (l : ScriptLine) (rounds : List Round) → nat_lt m q ≡ true → glued (Some m) lines (line_before q l rounds) ≡ record { moment = m; lines = lines } ∷ line_before q l rounds
glued_later m q lines l [] later = rw later refl
glued_later m q lines l (r ∷ rounds) later = chosen_later (nat_lt q r.moment) m q lines (l ∷ []) (l ∷ r.lines) r rounds later

not_above_itself : (m : ℕ) → nat_lt m m ≡ false
not_above_itself m = grind (arith, nat_tests)

-- a line of the same moment joins the open round
chosen_same : (c : Bool) (m : ℕ) (lines : List ScriptLine) (l : ScriptLine) (r : Round) (rounds : List Round) → nat_lt m m ≡ false → (if c then record { moment = m; lines = lines ++ l ∷ [] } ∷ r ∷ rounds else record { moment = m; lines = (lines ++ l ∷ []) ++ r.lines } ∷ rounds) ≡ glued (Some m) lines (if c then record { moment = m; lines = l ∷ [] } ∷ r ∷ rounds else record { moment = m; lines = l ∷ r.lines } ∷ rounds)
chosen_same true m lines l r rounds same = rw same refl
chosen_same false m lines l r rounds same = rw (same, append_assoc lines (l ∷ []) r.lines) refl

glued_same : (m : ℕ) (lines : List ScriptLine) (l : ScriptLine) (rounds : List Round) → glued (Some m) (lines ++ l ∷ []) rounds ≡ glued (Some m) lines (line_before m l rounds)
glued_same m lines l [] = rw (not_above_itself m) refl
glued_same m lines l (r ∷ rounds) = chosen_same (nat_lt m r.moment) m lines l r rounds (not_above_itself m)

-- one more packet, and what comes after it
kept_by : (b : Bool) (before moment : ℕ) (closed : List Round) (lines : List ScriptLine) (count items : ℕ) (l : ScriptLine) (rounds : List Round) → b ≡ nat_lt before moment → before ≤ moment → (with_line l (moved b moment (record { closed = closed; moment = Some before; lines = lines; rounds = count; items = items }))).closed ++ glued (with_line l (moved b moment (record { closed = closed; moment = Some before; lines = lines; rounds = count; items = items }))).moment (with_line l (moved b moment (record { closed = closed; moment = Some before; lines = lines; rounds = count; items = items }))).lines rounds ≡ closed ++ glued (Some before) lines (line_before moment l rounds)
kept_by true before moment closed lines count items l rounds is le =
    rw (glued_one moment l rounds, glued_later before moment lines l rounds (sym is)) (append_assoc closed (record { moment = before; lines = lines } ∷ []) (line_before moment l rounds))
kept_by false before moment closed lines count items l rounds is le =
    let same : before ≡ moment = grind (arith, nat_tests) in
    ap (λ rs. closed ++ rs) (glued_same before lines l rounds) ∙ ap (λ (n : ℕ). closed ++ glued (Some before) lines (line_before n l rounds)) same

-- the rounds that a state makes with those of the packets that come
abbrev pub joined_rounds : Made → List Round → List Round
joined_rounds m rounds = m.closed ++ glued m.moment m.lines rounds

kept_at : (last : Option ℕ) (moment : ℕ) (closed : List Round) (lines : List ScriptLine) (count items : ℕ) (l : ScriptLine) (rounds : List Round) → IsBehind last moment → joined_rounds (with_line l (with_moment moment (record { closed = closed; moment = last; lines = lines; rounds = count; items = items }))) rounds ≡ joined_rounds (record { closed = closed; moment = last; lines = lines; rounds = count; items = items }) (line_before moment l rounds)
kept_at None moment closed lines count items l rounds behind =
    rw (glued_one moment l rounds, append-nil closed) refl
kept_at (Some before) moment closed lines count items l rounds behind = kept_by (nat_lt before moment) before moment closed lines count items l rounds refl behind

-- REFUSALS

-- the rounds, unless there is a refusal
abbrev pub unless : List Round → Option BadCapture → Result (List Round) BadCapture
unless rounds None = Ok rounds
unless rounds (Some bad) = Err bad

chosen_cause : (a b : Bool) (at : ℕ) (m : Made) (k : Made → Result Made BadCapture) (rounds : List Round) (later : Option BadCapture) → rounds_result (k m) ≡ unless rounds later → rounds_result ((if a then refused_at at TooManyRounds else if b then refused_at at TooManyItems else Ok m) >>= k) ≡ unless rounds (refusal_or at (if a then Some TooManyRounds else if b then Some TooManyItems else None) later)
chosen_cause true b at m k rounds later goes_on = refl
chosen_cause false true at m k rounds later goes_on = refl
chosen_cause false false at m k rounds later goes_on = goes_on

-- what is known of a state behind packets: its counts and its moment
pub record IsOf (rounds items : ℕ) (before : List CapturedPacket) (m : Made) : Type 0 where
  pub rounds_are : m.rounds ≡ rounds + begun None before
  pub items_are : m.items ≡ items + length before
  pub moment_is : m.moment ≡ last_of None before

length_more : (before : List CapturedPacket) (packet : CapturedPacket) → length (before ++ packet ∷ []) ≡ length before + 1
length_more before packet = omega (arith, length-append before (packet ∷ []))

one_more : (rounds items : ℕ) (before : List CapturedPacket) (packet : CapturedPacket) (l : ScriptLine) (m : Made) → IsOf rounds items before m → IsBehind m.moment packet.moment → IsOf rounds items (before ++ packet ∷ []) (with_line l (with_moment packet.moment m))
one_more rounds items before packet l m is behind =
    let b : Bool = begins packet.moment m.moment in
    let counted : (moved b packet.moment m).rounds ≡ m.rounds + one_if b = moved_rounds b packet.moment m in
    let more : begun None (before ++ packet ∷ []) ≡ begun None before + one_if (begins packet.moment (last_of None before)) = begun_more None before packet in
    let here : begun None (before ++ packet ∷ []) ≡ begun None before + one_if b = rw (← is.moment_is) at more in
    record {
      rounds_are = counted ∙ omega (arith, is.rounds_are, here);
      items_are = ap (λ (n : ℕ). n + 1) (moved_items b packet.moment m) ∙ omega (arith, is.items_are, length_more before packet);
      moment_is = moved_moment b packet.moment m ∙ begun_moment m.moment packet.moment behind ∙ sym (last_more None before packet);
    }

-- all packets, one after the other
pub added : (net : Addr) (bits rounds items : ℕ) (before packets : List CapturedPacket) (m : Made) → IsOf rounds items before m → AreRising m.moment packets → rounds_result (with_packets net bits packets m) ≡ unless (joined_rounds m (rounds_of net bits packets)) (first_refusal net bits rounds items before packets)
added net bits rounds items before [] m is rising = ap (λ rs. Ok (m.closed ++ rs)) (glued_none m.moment m.lines)
added net bits rounds items before (packet ∷ packets) m is rising =
    let l : ScriptLine = packet_line net bits packet.bytes in
    let next : Made = with_line l (with_moment packet.moment m) in
    let upto : List CapturedPacket = before ++ packet ∷ [] in
    let here : IsOf rounds items upto next = one_more rounds items before packet l m is rising.0 in
    let moment : next.moment ≡ Some packet.moment = here.moment_is ∙ last_more None before packet in
    let rises : AreRising next.moment packets = rw moment rising.1 in
    let later = added net bits rounds items upto packets next here rises in
    let joined : joined_rounds next (rounds_of net bits packets) ≡ joined_rounds m (rounds_of net bits (packet ∷ packets)) = kept_at m.moment packet.moment m.closed m.lines m.rounds m.items l (rounds_of net bits packets) rising.0 in
    let turned : rounds_result (with_packets net bits packets next) ≡ unless (joined_rounds m (rounds_of net bits (packet ∷ packets))) (first_refusal net bits rounds items upto packets) = later ∙ ap (λ rs. unless rs (first_refusal net bits rounds items upto packets)) joined in
    let count : next.rounds ≡ rounds + length (rounds_of net bits upto) = here.rounds_are ∙ ap (λ (n : ℕ). rounds + n) (sym (rounds_begun net bits upto)) in
    let told = chosen_cause (nat_lt max_rounds next.rounds) (nat_lt max_items next.items) packet.at next (with_packets net bits packets) (joined_rounds m (rounds_of net bits (packet ∷ packets))) (first_refusal net bits rounds items upto packets) turned in
    told ∙ ap (λ (n : ℕ). unless (joined_rounds m (rounds_of net bits (packet ∷ packets))) (refusal_or packet.at (if nat_lt max_rounds n then Some TooManyRounds else if nat_lt max_items next.items then Some TooManyItems else None) (first_refusal net bits rounds items upto packets))) count ∙ ap (λ (n : ℕ). unless (joined_rounds m (rounds_of net bits (packet ∷ packets))) (refusal_or packet.at (if nat_lt max_rounds (rounds + length (rounds_of net bits upto)) then Some TooManyRounds else if nat_lt max_items n then Some TooManyItems else None) (first_refusal net bits rounds items upto packets))) here.items_are

-- from nothing
pub all_added : (net : Addr) (bits rounds items before : ℕ) (packets : List CapturedPacket) → AreRising (Some before) packets → rounds_result (with_packets net bits packets (none_made rounds items)) ≡ unless (rounds_of net bits packets) (first_refusal net bits rounds items [] packets)
all_added net bits rounds items before packets rising =
    added net bits rounds items [] packets (none_made rounds items) (record { rounds_are = omega arith; items_are = omega arith; moment_is = refl }) (rising_from_none before packets rising)

-- A COUNT OF ITEMS THAT STANDS STILL

same_test : (items more : ℕ) → nat_lt max_items (min items (2 ^ 64 - 1) + more) ≡ nat_lt max_items (items + more)
same_test items more = grind (arith, nat_tests)

pub same_refusals : (net : Addr) (bits rounds items : ℕ) (before packets : List CapturedPacket) → first_refusal net bits rounds (min items (2 ^ 64 - 1)) before packets ≡ first_refusal net bits rounds items before packets
same_refusals net bits rounds items before [] = refl
same_refusals net bits rounds items before (packet ∷ packets) =
    rw (same_test items (length (before ++ packet ∷ [])), same_refusals net bits rounds items (before ++ packet ∷ []) packets) refl
