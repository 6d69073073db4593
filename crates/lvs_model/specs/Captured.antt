-- The script that a capture makes of a script, and the frames that the books of a run give (this project's profile).
use Rattle.std.specs.Prelude.{ℕ, ◌+◌, ◌-◌, ◌/◌, ◌%◌, ◌^◌, ◌==◌, Bool, ◌&&◌, List, [], ◌∷◌, ◌++◌, length, max, flat_map, slice_get, Option, Some, None, Result, Ok, Err, if◌then◌else◌, nat_lt, nat_le}
use Rattle.std.specs.List.{filter_map}
use Rattle.std.specs.Option.{option_map_or}
use Rattle.lvs_types.specs.Limits.{max_items, max_rounds}
use Rattle.lvs_types.specs.declared.addr.Addr.{Addr}
use Rattle.lvs_types.specs.declared.book.Noted.{Noted}
use Rattle.lvs_types.specs.declared.book.RoundBook.{RoundBook}
use Rattle.lvs_types.specs.declared.capture.Capture.{Capture}
use Rattle.lvs_types.specs.declared.capture.CaptureCause.{CaptureCause}
use Rattle.lvs_types.specs.declared.capture.CaptureCause.TheVariants.{TooManyRounds, TooManyItems}
use Rattle.lvs_types.specs.declared.capture.Frame.{Frame}
use Rattle.lvs_types.specs.declared.reply.Reply.{Reply}
use Rattle.lvs_types.specs.declared.reply.Reply.TheVariants as reply
use Rattle.lvs_types.specs.declared.script.Round.{Round}
use Rattle.lvs_types.specs.declared.script.Script.{Script}
use Rattle.lvs_types.specs.declared.script.ScriptLine.{ScriptLine}
use Rattle.lvs_types.specs.declared.script.ScriptLine.TheVariants as line
use Rattle.lvs_model.specs.declared.capture.BadCapture.{BadCapture}
use Rattle.lvs_model.specs.CaptureFiles.{ip_of, capture_bytes}
use Rattle.lvs_model.specs.Fields.{addr_at}
use Rattle.lvs_model.specs.ScriptLimits.{items_in}

-- THE PACKETS OF A CAPTURE

-- a packet that was captured
pub record CapturedPacket : Type 0 where
  -- the number of its record, from 1
  pub at : ℕ
  -- when it stands in the script, in seconds
  pub moment : ℕ
  pub bytes : List ℕ

-- the moment of a packet: its seconds rounded down to a multiple of the step, but not before the packet before it
abbrev pub moment_after : ℕ → ℕ → ℕ → ℕ
moment_after step before seconds = max before (seconds - seconds % step)

-- a packet in front of those after it, whose moments rest on its own
abbrev pub packet_then : ℕ → ℕ → ℕ → Option (List ℕ) → (ℕ → List CapturedPacket) → List CapturedPacket
packet_then at before moment None later = later before
packet_then at before moment (Some bytes) later = record { at = at; moment = moment; bytes = bytes } ∷ later moment

-- the packets of the frames from the record of that number on, the moment before them being given; a frame without one is skipped
abbrev pub packets_from : ℕ → ℕ → ℕ → ℕ → List Frame → List CapturedPacket
packets_from link step at before [] = []
packets_from link step at before (frame ∷ frames) =
    packet_then at before (moment_after step before frame.seconds) (ip_of link frame) (λ moment. packets_from link step (at + 1) moment frames)

-- THEIR ROUNDS

-- two addresses agree in the first so many bits
abbrev pub agree_in : ℕ → Addr → Addr → Bool
agree_in bits a b = a.number / 2 ^ (32 - bits) == b.number / 2 ^ (32 - bits)

-- a packet that comes from the servers' network: it has an IP header, and its source agrees with the network's address
abbrev pub is_outgoing : Addr → ℕ → List ℕ → Bool
is_outgoing net bits bytes = nat_le 20 (length bytes) && agree_in bits (addr_at bytes 12) net

abbrev pub packet_line : Addr → ℕ → List ℕ → ScriptLine
packet_line net bits bytes = if is_outgoing net bits bytes then line.Outgoing bytes else line.Incoming 0 bytes

-- a line before the rounds of the later ones: in the first of these, unless that has a later moment
abbrev pub line_before : ℕ → ScriptLine → List Round → List Round
line_before moment l [] = record { moment = moment; lines = l ∷ [] } ∷ []
line_before moment l (next ∷ rounds) =
    if nat_lt moment next.moment then record { moment = moment; lines = l ∷ [] } ∷ next ∷ rounds
    else record { moment = moment; lines = l ∷ next.lines } ∷ rounds

-- the rounds of packets: a packet begins a new one where it is the first, or has a later moment than the packet before it
abbrev pub rounds_of : Addr → ℕ → List CapturedPacket → List Round
rounds_of net bits [] = []
rounds_of net bits (packet ∷ packets) = line_before packet.moment (packet_line net bits packet.bytes) (rounds_of net bits packets)

-- THE CAPTURED SCRIPT

-- the moment of the last round, 0 where there is none
abbrev pub last_moment : List Round → ℕ
last_moment rounds = option_map_or (λ (round : Round). round.moment) (slice_get rounds (length rounds - 1)) 0

-- why the last of these packets can't follow so many rounds and items, where it can't
abbrev pub cause_behind : ℕ → ℕ → List Round → List CapturedPacket → Option CaptureCause
cause_behind rounds items made packets =
    if nat_lt max_rounds (rounds + length made) then Some TooManyRounds
    else if nat_lt max_items (items + length packets) then Some TooManyItems
    else None

-- a refusal at a packet, or what comes of the packets after it
abbrev pub refusal_or : ℕ → Option CaptureCause → Option BadCapture → Option BadCapture
refusal_or at None later = later
refusal_or at (Some why) later = Some (record { at = at; cause = why })

-- the first packet that can't follow so many rounds and items with the packets before it
abbrev pub first_refusal : Addr → ℕ → ℕ → ℕ → List CapturedPacket → List CapturedPacket → Option BadCapture
first_refusal net bits rounds items before [] = None
first_refusal net bits rounds items before (packet ∷ packets) =
    refusal_or packet.at (cause_behind rounds items (rounds_of net bits (before ++ packet ∷ [])) (before ++ packet ∷ [])) (first_refusal net bits rounds items (before ++ packet ∷ []) packets)

-- the script with the rounds of the packets, unless one of these is refused
abbrev pub with_rounds : Script → List Round → Option BadCapture → Result Script BadCapture
with_rounds script rounds None = Ok (record script { rounds = script.rounds ++ rounds })
with_rounds script rounds (Some bad) = Err bad

abbrev pub with_packets : Addr → ℕ → Script → List CapturedPacket → Result Script BadCapture
with_packets net bits script packets = with_rounds script (rounds_of net bits packets) (first_refusal net bits (length script.rounds) (items_in script.rounds) [] packets)

-- the packets of a capture behind the rounds of a script
abbrev pub packets_behind : ℕ → Script → Capture → List CapturedPacket
packets_behind step script capture = packets_from capture.link step 1 (last_moment script.rounds) capture.frames

-- the script and then a capture: the network of the servers, its bits, and the seconds of a round come first
abbrev pub captured : Addr → ℕ → ℕ → Script → Capture → Result Script BadCapture
captured net bits step script capture = with_packets net bits script (packets_behind step script capture)

-- THE FRAMES THAT WERE SENT

abbrev pub sent_frame : ℕ → List ℕ → Frame
sent_frame moment bytes = record { seconds = moment; micros = 0; whole = length bytes; bytes = bytes }

-- the frame of a reply that sends a packet on
abbrev pub frame_of_reply : ℕ → Reply → Option Frame
frame_of_reply moment (reply.Forward method to bytes) = Some (sent_frame moment bytes)
frame_of_reply moment (reply.Outward bytes) = Some (sent_frame moment bytes)
frame_of_reply moment other = None

-- in order of place
abbrev pub frames_of_book : RoundBook → List Frame
frames_of_book book = filter_map (λ (act : Noted). frame_of_reply book.moment act.reply) book.acts

-- in order of round
abbrev pub sent_frames : List RoundBook → List Frame
sent_frames books = flat_map frames_of_book books

-- the file that is due for books
abbrev pub sent_capture : List RoundBook → List ℕ
sent_capture books = capture_bytes (sent_frames books)
