-- The records of a file, read and written one after the other.
use Rattle.std.proofs.Common.{◌≡◌, ◌∙◌, ℕ, zero, suc, ◌+◌, ◌-◌, ◌<◌, ◌≤◌, List, [], ◌∷◌, ◌++◌, length, take, drop, flat_map, slice_index_or, append_assoc, append-nil, add-one, length-drop, drop-cons, refl, ap, sym, arith, Result, Ok, Err}
use Rattle.std.proofs.lemmas.List.{length-take}
use Rattle.lvs_types.specs.declared.capture.Frame.{Frame}
use Rattle.lvs_model.specs.declared.capture.BadCapture.{BadCapture}
use Rattle.lvs_model.specs.declared.capture.Endianness.{Endianness}
use Rattle.lvs_model.specs.Refusals.{◌>>=◌}
use Rattle.lvs_model.specs.CaptureFiles.{frames_behind, frame_read, frame_of, captured_length}

-- the frames so far and what is read after them
abbrev pub onto : List Frame → Result (List Frame) BadCapture → Result (List Frame) BadCapture
onto front (Ok more) = Ok (front ++ more)
onto front (Err bad) = Err bad

-- bytes that are skipped are dropped
pub skipped : (order : Endianness) (at skip : ℕ) (bytes : List ℕ) → frames_behind order at skip bytes ≡ frames_behind order at 0 (drop skip bytes)
skipped order at zero bytes = refl
skipped order at (suc skip) [] = refl
skipped order at (suc skip) (byte ∷ bytes) = skipped order at skip bytes

in_front : (frame : Frame) (more : Result (List Frame) BadCapture) → (more >>= (λ frames. Ok (frame ∷ frames))) ≡ onto (frame ∷ []) more
in_front frame (Ok frames) = refl
in_front frame (Err bad) = refl

drop_record : (n : ℕ) (byte : ℕ) (bytes : List ℕ) → drop (16 + n) (byte ∷ bytes) ≡ drop (15 + n) bytes
drop_record n byte bytes = let e : 16 + n ≡ suc (15 + n) = omega arith in rw e refl

-- a record is read, and then those behind it
pub next_record : (order : Endianness) (at n : ℕ) (bytes : List ℕ) (frame : Frame) → 0 < length bytes → frame_read order at bytes ≡ Ok frame → length frame.bytes ≡ n → frames_behind order at 0 bytes ≡ onto (frame ∷ []) (frames_behind order (at + 1) 0 (drop (16 + n) bytes))
next_record order at n [] frame some read size = absurd (omega arith)
next_record order at n (byte ∷ bytes) frame some read size =
    let behind : frames_behind order (at + 1) (15 + length frame.bytes) bytes ≡ frames_behind order (at + 1) 0 (drop (15 + length frame.bytes) bytes) = skipped order (at + 1) (15 + length frame.bytes) bytes in
    rw (read, behind, size, drop_record n byte bytes) (in_front frame (frames_behind order (at + 1) 0 (drop (15 + n) bytes)))

-- a record that isn't there ends the reading
bad_record : (order : Endianness) (at : ℕ) (bytes : List ℕ) (bad : BadCapture) → 0 < length bytes → frame_read order at bytes ≡ Err bad → frames_behind order at 0 bytes ≡ Err bad
bad_record order at [] bad some read = absurd (omega arith)
bad_record order at (byte ∷ bytes) bad some read = rw read refl

no_record : (order : Endianness) (at : ℕ) (bytes : List ℕ) → length bytes ≡ 0 → frames_behind order at 0 bytes ≡ Ok []
no_record order at [] none = refl
no_record order at (byte ∷ bytes) none = absurd (omega arith)

-- one more frame in front of what comes
onto_more : (front : List Frame) (frame : Frame) (more : Result (List Frame) BadCapture) → onto (front ++ frame ∷ []) more ≡ onto front (onto (frame ∷ []) more)
onto_more front frame (Ok more) = ap Ok (append_assoc front (frame ∷ []) more)
onto_more front frame (Err bad) = refl

onto_nothing : (more : Result (List Frame) BadCapture) → onto [] more ≡ more
onto_nothing (Ok more) = refl
onto_nothing (Err bad) = refl

-- A LOOP OVER THE RECORDS

pub begin_frames : (order : Endianness) (bytes rest : List ℕ) (front : List Frame) → front ≡ [] → rest ≡ drop 24 bytes → onto front (frames_behind order 1 0 rest) ≡ frames_behind order 1 24 bytes
begin_frames order bytes rest front empty is = rw (empty, is) (onto_nothing (frames_behind order 1 0 (drop 24 bytes)) ∙ sym (skipped order 1 24 bytes))

pub one_frame : (order : Endianness) (at : ℕ) (front more : List Frame) (frame : Frame) (rest after : List ℕ) (whole : Result (List Frame) BadCapture) → 0 < length rest → frame_read order at rest ≡ Ok frame → after ≡ drop (16 + length frame.bytes) rest → more ≡ front ++ frame ∷ [] → onto front (frames_behind order at 0 rest) ≡ whole → onto more (frames_behind order (at + 1) 0 after) ≡ whole
one_frame order at front more frame rest after whole some read is pushed so_far =
    let next = next_record order at (length frame.bytes) rest frame some read refl in
    let parts = rw next at so_far in
    rw (pushed, is) (onto_more front frame (frames_behind order (at + 1) 0 (drop (16 + length frame.bytes) rest)) ∙ parts)

pub no_frame : (order : Endianness) (at : ℕ) (front : List Frame) (rest : List ℕ) (bad : BadCapture) (whole : Result (List Frame) BadCapture) → 0 < length rest → frame_read order at rest ≡ Err bad → onto front (frames_behind order at 0 rest) ≡ whole → whole ≡ Err bad
no_frame order at front rest bad whole some read so_far =
    let here = bad_record order at rest bad some read in
    sym (rw here at so_far)

pub all_frames : (order : Endianness) (at : ℕ) (front : List Frame) (rest : List ℕ) (whole : Result (List Frame) BadCapture) → length rest ≡ 0 → onto front (frames_behind order at 0 rest) ≡ whole → whole ≡ Ok front
all_frames order at front rest whole none so_far =
    let here = no_record order at rest none in
    sym (rw here at so_far) ∙ ap Ok (append-nil front)

-- what a loop that appends the bytes of each frame has still to append
pub append_one : (f : Frame → List ℕ) (out more whole : List ℕ) (i : ℕ) (frames : List Frame) (frame : Frame) → i < length frames → frame ≡ slice_index_or frames i frame → more ≡ out ++ f frame → out ++ flat_map f (drop i frames) ≡ whole → more ++ flat_map f (drop (i + 1) frames) ≡ whole
append_one f out more whole i frames frame within is added so_far =
    let here : drop i frames ≡ slice_index_or frames i frame ∷ drop (i + 1) frames = rw add-one (drop-cons frames i frame within) in
    let this : drop i frames ≡ frame ∷ drop (i + 1) frames = rw (← is) at here in
    let parts : out ++ flat_map f (frame ∷ drop (i + 1) frames) ≡ whole = rw this at so_far in
    rw added (append_assoc out (f frame) (flat_map f (drop (i + 1) frames)) ∙ parts)
