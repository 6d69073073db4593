-- The records of the packets that acts sent, one act after the other.
use Rattle.std.proofs.Common.{◌≡◌, ℕ, ◌+◌, ◌<◌, List, ◌∷◌, ◌++◌, length, drop, get_or, Option, Some, None, refl, sym, ◌∙◌, ap, append_assoc, add-one, suc}
use Rattle.std.specs.Prelude.{flat_map}
use Rattle.std.specs.List.{filter_map}
use Rattle.std.proofs.Math.Seq.{drop-cons}
use Rattle.lvs_types.specs.declared.book.Noted.{Noted}
use Rattle.lvs_types.specs.declared.capture.Frame.{Frame}
use Rattle.lvs_model.specs.Captured.{frame_of_reply}
use Rattle.lvs_model.specs.CaptureFiles.{record_bytes}
use Rattle.lvs_run.specs.Written.{record_of, records_of}

abbrev choose : Option Frame → List Frame → List Frame
choose None frames = frames
choose (Some frame) frames = frame ∷ frames

records_by : (o : Option Frame) (frames : List Frame) → flat_map record_bytes (choose o frames) ≡ record_of o ++ flat_map record_bytes frames
records_by None frames = refl
records_by (Some frame) frames = refl

chosen : (o : Option Frame) (seconds : ℕ) (act : Noted) (acts : List Noted) → frame_of_reply seconds act.reply ≡ o → filter_map (λ (a : Noted). frame_of_reply seconds a.reply) (act ∷ acts) ≡ choose o (filter_map (λ (a : Noted). frame_of_reply seconds a.reply) acts)
chosen None seconds act acts is = rw is refl
chosen (Some frame) seconds act acts is = rw is refl

records_cons : (seconds : ℕ) (act : Noted) (acts : List Noted) → records_of seconds (act ∷ acts) ≡ record_of (frame_of_reply seconds act.reply) ++ records_of seconds acts
records_cons seconds act acts =
    ap (flat_map record_bytes) (chosen (frame_of_reply seconds act.reply) seconds act acts refl)
    ∙ records_by (frame_of_reply seconds act.reply) (filter_map (λ (a : Noted). frame_of_reply seconds a.reply) acts)

pub records_step : (seconds i : ℕ) (out more whole : List ℕ) (acts : List Noted) (act : Noted) → i < length acts → act ≡ get_or acts i act → more ≡ out ++ record_of (frame_of_reply seconds act.reply) → out ++ records_of seconds (drop i acts) ≡ whole → more ++ records_of seconds (drop (i + 1) acts) ≡ whole
records_step seconds i out more whole acts act within is added so_far =
    let here : drop i acts ≡ act ∷ drop (i + 1) acts = rw add-one (drop-cons acts i act within ∙ ap (λ (a : Noted). a ∷ drop (suc i) acts) (sym is)) in
    let step : records_of seconds (drop i acts) ≡ record_of (frame_of_reply seconds act.reply) ++ records_of seconds (drop (i + 1) acts) = ap (records_of seconds) here ∙ records_cons seconds act (drop (i + 1) acts) in
    ap (λ (l : List ℕ). l ++ records_of seconds (drop (i + 1) acts)) added
    ∙ append_assoc out (record_of (frame_of_reply seconds act.reply)) (records_of seconds (drop (i + 1) acts))
    ∙ ap (λ (l : List ℕ). out ++ l) (sym step) ∙ so_far
