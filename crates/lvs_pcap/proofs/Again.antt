-- What was written is read again.
use Rattle.std.proofs.Common.{◌≡◌, ◌∙◌, ℕ, sym, ◌+◌, ◌-◌, ◌*◌, ◌/◌, ◌%◌, ◌<◌, ◌≤◌, nat_lt, false, List, [], ◌∷◌, ◌++◌, length, take, drop, flat_map, refl, ap, arith, Ok, length-append}
use Rattle.std.specs.Prelude.{slice_range}
use Rattle.std.proofs.lemmas.Bool.Decides.{nat_tests}
use Rattle.std.proofs.lemmas.List.{drop-drop}
use Rattle.lvs_types.specs.declared.capture.Capture.{Capture}
use Rattle.lvs_types.specs.declared.capture.Frame.{Frame}
use Rattle.lvs_model.specs.declared.capture.Endianness.{Endianness}
use Rattle.lvs_model.specs.declared.capture.Endianness.TheVariants.{Little}
use Rattle.lvs_model.specs.CaptureFiles.{capture_of, capture_bytes, header_bytes, header_of, checked_header, order_of, link_of, record_bytes, frames_behind, frame_read, frame_of, captured_length}
use Rattle.lvs_pcap.proofs.FileLemmas.{onto, skipped, next_record}

not_below : (n k : ℕ) → k ≤ n → nat_lt n k ≡ false
not_below n k h = grind (arith, nat_tests)

-- the bytes of a number make it again
byte_pair : (n : ℕ) → n % 256 + 256 * (n / 256) ≡ n
byte_pair n = omega arith

word_pair : (n : ℕ) → n % 65536 + 65536 * (n / 65536) ≡ n
word_pair n = omega arith

behind_header : (n : ℕ) → 16 + n - 16 ≡ n
behind_header n = omega arith

-- the bytes of a list in front of others
take_front : (xs ys : List ℕ) → take (length xs) (xs ++ ys) ≡ xs
take_front [] ys = refl
take_front (x ∷ xs) ys = ap (λ zs. x ∷ zs) (take_front xs ys)

drop_front : (xs ys : List ℕ) → drop (length xs) (xs ++ ys) ≡ ys
drop_front [] ys = refl
drop_front (x ∷ xs) ys = drop_front xs ys

-- A RECORD

whole_record : (order : Endianness) (at : ℕ) (bytes : List ℕ) → 16 + captured_length order bytes ≤ length bytes → frame_read order at bytes ≡ Ok (frame_of order bytes)
whole_record order at bytes there =
    let long : nat_lt (length bytes) 16 ≡ false = not_below (length bytes) 16 (omega arith) in
    let whole : nat_lt (length bytes) (16 + captured_length order bytes) ≡ false = not_below (length bytes) (16 + captured_length order bytes) there in
    rw (long, whole) refl

told_length : (frame : Frame) (rest : List ℕ) → captured_length Little (record_bytes frame ++ rest) ≡ length frame.bytes
told_length frame rest = simp (byte_pair, word_pair)

cut_behind : (bytes : List ℕ) (n : ℕ) → slice_range bytes 16 (16 + n) ≡ take n (drop 16 bytes)
cut_behind bytes n = rw (behind_header n) refl

same_bytes : (frame : Frame) (rest : List ℕ) → (frame_of Little (record_bytes frame ++ rest)).bytes ≡ frame.bytes
same_bytes frame rest =
    cut_behind (record_bytes frame ++ rest) (captured_length Little (record_bytes frame ++ rest)) ∙ ap (λ n. take n (drop 16 (record_bytes frame ++ rest))) (told_length frame rest) ∙ take_front frame.bytes rest

abbrev frame_with : ℕ → ℕ → ℕ → List ℕ → Frame
frame_with seconds micros whole bytes = record { seconds = seconds; micros = micros; whole = whole; bytes = bytes }

same_fields : (frame other : Frame) → other.seconds ≡ frame.seconds → other.micros ≡ frame.micros → other.whole ≡ frame.whole → other.bytes ≡ frame.bytes → other ≡ frame
same_fields frame other seconds micros whole bytes =
    let parts : frame_with other.seconds other.micros other.whole other.bytes ≡ frame_with frame.seconds frame.micros frame.whole frame.bytes = rw (seconds, micros, whole, bytes) refl in
    parts

same_frame : (frame : Frame) (rest : List ℕ) → frame_of Little (record_bytes frame ++ rest) ≡ frame
same_frame frame rest =
    let seconds : (frame_of Little (record_bytes frame ++ rest)).seconds ≡ frame.seconds = simp (byte_pair, word_pair) in
    let micros : (frame_of Little (record_bytes frame ++ rest)).micros ≡ frame.micros = simp (byte_pair, word_pair) in
    let whole : (frame_of Little (record_bytes frame ++ rest)).whole ≡ frame.whole = simp (byte_pair, word_pair) in
    same_fields frame (frame_of Little (record_bytes frame ++ rest)) seconds micros whole (same_bytes frame rest)

length_record : (frame : Frame) (rest : List ℕ) → length (record_bytes frame ++ rest) ≡ 16 + (length frame.bytes + length rest)
length_record frame rest = omega (arith, length-append frame.bytes rest)

one_again : (at : ℕ) (frame : Frame) (rest : List ℕ) → frame_read Little at (record_bytes frame ++ rest) ≡ Ok frame
one_again at frame rest =
    let there : 16 + captured_length Little (record_bytes frame ++ rest) ≤ length (record_bytes frame ++ rest) = omega (arith, length_record frame rest, told_length frame rest) in
    whole_record Little at (record_bytes frame ++ rest) there ∙ ap Ok (same_frame frame rest)

behind_record : (frame : Frame) (rest : List ℕ) → drop (16 + length frame.bytes) (record_bytes frame ++ rest) ≡ rest
behind_record frame rest = sym (drop-drop (length frame.bytes) 16 (record_bytes frame ++ rest)) ∙ drop_front frame.bytes rest

all_again : (at : ℕ) (frames : List Frame) → frames_behind Little at 0 (flat_map record_bytes frames) ≡ Ok frames
all_again at [] = refl
all_again at (frame ∷ frames) =
    let rest : List ℕ = flat_map record_bytes frames in
    let some : 0 < length (record_bytes frame ++ rest) = omega (arith, length_record frame rest) in
    let first = next_record Little at (length frame.bytes) (record_bytes frame ++ rest) frame some (one_again at frame rest) refl in
    first ∙ (rw (behind_record frame rest, all_again (at + 1) frames) refl)

-- A FILE

read_header : (bytes : List ℕ) (order : Endianness) → 24 ≤ length bytes → checked_header bytes (order_of bytes) ≡ Ok order → header_of bytes ≡ Ok order
read_header bytes order long checked =
    let whole : nat_lt (length bytes) 24 ≡ false = not_below (length bytes) 24 long in
    rw (whole) checked

read_file : (bytes : List ℕ) (order : Endianness) (frames : List Frame) → header_of bytes ≡ Ok order → frames_behind order 1 24 bytes ≡ Ok frames → capture_of bytes ≡ Ok (record { link = link_of order bytes; frames = frames })
read_file bytes order frames header records = rw (header, records) refl

-- link 101 and the frames
pub file_again : (frames : List Frame) → capture_of (capture_bytes frames) ≡ Ok (record { link = 101; frames = frames })
file_again frames =
    let rest : List ℕ = flat_map record_bytes frames in
    let long : 24 ≤ length (header_bytes ++ rest) = omega arith in
    let header : header_of (header_bytes ++ rest) ≡ Ok Little = read_header (header_bytes ++ rest) Little long refl in
    let records : frames_behind Little 1 24 (header_bytes ++ rest) ≡ Ok frames = skipped Little 1 24 (header_bytes ++ rest) ∙ all_again 1 frames in
    read_file (header_bytes ++ rest) Little frames header records
