-- The frames of a file of bytes hold bytes.
use Rattle.std.proofs.Common.{◌≡◌, ℕ, zero, suc, ◌+◌, Bool, true, false, cond, nat_lt, List, [], ◌∷◌, length, drop, Result, Ok, Err, refl, subst}
use Rattle.std.specs.Prelude.{slice_range}
use Rattle.hex.specs.Hex.{IsBytes}
use Rattle.lvs_types.specs.declared.capture.Capture.{Capture}
use Rattle.lvs_types.specs.declared.capture.CaptureCause.TheVariants as cause
use Rattle.lvs_types.specs.declared.capture.Frame.{Frame}
use Rattle.lvs_model.specs.declared.capture.BadCapture.{BadCapture}
use Rattle.lvs_model.specs.declared.capture.Endianness.{Endianness}
use Rattle.lvs_model.specs.Refusals.{◌>>=◌}
use Rattle.lvs_model.specs.CaptureFiles.{refused_at, header_of, captured_length, frame_of, frame_read, frames_behind, link_of, capture_of}
use Rattle.lvs_tidy_run.proofs.CapturedLemmas.{HoldBytes, bytes_drop, bytes_take}

then_ok : {A B E : Type 0} (r : Result A E) (f : A → Result B E) (y : B) → (r >>= f) ≡ Ok y → (x : A) × (r ≡ Ok x) × (f x ≡ Ok y)
then_ok (Ok x) f y e = (x, refl, e)
then_ok (Err why) f y e = absurd cc

range_bytes : (i j : ℕ) (bytes : List ℕ) → IsBytes bytes → IsBytes (slice_range bytes i j)
range_bytes i j bytes are = bytes_take _ (drop i bytes) (bytes_drop i bytes are)

frame_by : (short cut : Bool) (at : ℕ) (made frame : Frame) → cond short (refused_at at cause.RecordShort) (cond cut (refused_at at cause.RecordShort) (Ok made)) ≡ Ok frame → made ≡ frame
frame_by true cut at made frame e = absurd cc
frame_by false true at made frame e = absurd cc
frame_by false false at made frame e = cc

frame_bytes : (order : Endianness) (at : ℕ) (bytes : List ℕ) (frame : Frame) → frame_read order at bytes ≡ Ok frame → IsBytes bytes → IsBytes frame.bytes
frame_bytes order at bytes frame e are =
    let same : frame_of order bytes ≡ frame = frame_by (nat_lt (length bytes) 16) (nat_lt (length bytes) (16 + captured_length order bytes)) at (frame_of order bytes) frame e in
    subst (λ (f : Frame). IsBytes f.bytes) same (range_bytes 16 (16 + captured_length order bytes) bytes are)

frames_are : (xs ys : List Frame) → ◌≡◌ {A = Result (List Frame) BadCapture} (Ok xs) (Ok ys) → xs ≡ ys
frames_are xs ys e = cc

frames_hold : (order : Endianness) (at skipped : ℕ) (bytes : List ℕ) (frames : List Frame) → frames_behind order at skipped bytes ≡ Ok frames → IsBytes bytes → HoldBytes frames
frames_hold order at zero [] frames e are = subst HoldBytes (frames_are [] frames e) tt
frames_hold order at zero (byte ∷ bytes) frames e are =
    let first = then_ok (frame_read order at (byte ∷ bytes)) (λ (f : Frame). frames_behind order (at + 1) (15 + length f.bytes) bytes >>= (λ (more : List Frame). let all : Result (List Frame) BadCapture = Ok (f ∷ more) in all)) frames e in
    let rest = then_ok (frames_behind order (at + 1) (15 + length first.0.bytes) bytes) (λ (more : List Frame). let all : Result (List Frame) BadCapture = Ok (first.0 ∷ more) in all) frames first.2 in
    subst HoldBytes (frames_are (first.0 ∷ rest.0) frames rest.2) (frame_bytes order at (byte ∷ bytes) first.0 first.1 are, frames_hold order (at + 1) (15 + length first.0.bytes) bytes rest.0 rest.1 (λ i. are (suc i)))
frames_hold order at (suc skipped) [] frames e are = subst HoldBytes (frames_are [] frames e) tt
frames_hold order at (suc skipped) (byte ∷ bytes) frames e are = frames_hold order at skipped bytes frames e (λ i. are (suc i))

abbrev capture_with : ℕ → List Frame → Capture
capture_with link frames = record { link = link; frames = frames }

capture_is : (x y : Capture) → ◌≡◌ {A = Result Capture BadCapture} (Ok x) (Ok y) → x ≡ y
capture_is x y e = cc

pub capture_holds : (bytes : List ℕ) (capture : Capture) → capture_of bytes ≡ Ok capture → IsBytes bytes → HoldBytes capture.frames
capture_holds bytes capture e are =
    let order = then_ok (header_of bytes) (λ (o : Endianness). frames_behind o 1 24 bytes >>= (λ (frames : List Frame). let all : Result Capture BadCapture = Ok (capture_with (link_of o bytes) frames) in all)) capture e in
    let frames = then_ok (frames_behind order.0 1 24 bytes) (λ (frames : List Frame). let all : Result Capture BadCapture = Ok (capture_with (link_of order.0 bytes) frames) in all) capture order.2 in
    subst (λ (c : Capture). HoldBytes c.frames) (capture_is (capture_with (link_of order.0 bytes) frames.0) capture frames.2) (frames_hold order.0 1 24 bytes frames.0 frames.1 are)
