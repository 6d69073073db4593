-- What a reader of captures refuses, and which frames can be written.
use Rattle.std.specs.Prelude.{◌≡◌, ◌≤◌, ℕ, List, [], ◌∷◌, length, Result, Err}
use Rattle.lvs_types.specs.Limits.{max_moment}
use Rattle.lvs_types.specs.declared.capture.Frame.{Frame}
use Rattle.lvs_model.specs.declared.capture.BadCapture.{BadCapture}
use Rattle.lvs_pcap.specs.declared.refused.CaptureRefused.{CaptureRefused}
use Rattle.lvs_pcap.specs.declared.refused.CaptureRefused.TheVariants.{Refused, NoMemory}

-- a refusal tells the record and the cause that were found; want of memory may come whatever they are
abbrev pub IsRefusal : {A : Type 0} → Result A BadCapture → CaptureRefused → Type 0
IsRefusal {A = A} found (Refused at cause) = found ≡ Err (record { at = at; cause = cause })
IsRefusal {A = A} found NoMemory = Unit {0}

-- an IP packet at most, and all of it was captured
abbrev pub IsWhole : Frame → Type 0
IsWhole frame = (length frame.bytes ≤ 65535) × (frame.whole ≡ length frame.bytes)

-- the seconds of each frame are a moment that a script may have
abbrev pub AreInSeconds : List Frame → Type 0
AreInSeconds [] = Unit {0}
AreInSeconds (frame ∷ frames) = (frame.seconds ≤ max_moment) × AreInSeconds frames
