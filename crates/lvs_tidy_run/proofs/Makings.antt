-- The script of an input, from its parts, and what `capture` does with it.
use Rattle.std.proofs.Common.{◌≡◌, ℕ, List, Result, Ok, Err, refl, ◌∙◌, sym, ap}
use Rattle.std.specs.Prelude.{codes}
use Rattle.lvs_types.specs.declared.capture.Capture.{Capture}
use Rattle.lvs_types.specs.declared.program.ProgramCommand.TheVariants as program
use Rattle.lvs_types.specs.declared.script.Script.{Script}
use Rattle.lvs_types.specs.declared.status.Status.{Status}
use Rattle.lvs_model.specs.declared.capture.BadCapture.{BadCapture}
use Rattle.lvs_model.specs.declared.script.BadLine.{BadLine}
use Rattle.lvs_model.specs.Refusals.{◌>>=◌}
use Rattle.lvs_model.specs.Inputs.{Parts, parts_of}
use Rattle.lvs_model.specs.Scripts.{script_of}
use Rattle.lvs_model.specs.Tasks.{Task, script_behind, script_given, capture_given, capture_task, serial_run, task_of}
use Rattle.lvs_model.specs.CaptureFiles.{capture_of}
use Rattle.lvs_model.specs.Captured.{captured}
use Rattle.lvs_tidy_run.specs.declared.words.Asked.{Asked}
use Rattle.lvs_tidy_run.specs.Made.{script_in, script_made, played}
use Rattle.lvs_tidy_run.proofs.AnswerLemmas.{IsReady}

in_parts : (asked : Asked) (parts : Parts) (script whole : Script) (capture : Capture) → script_given parts.first ≡ Ok script → capture_of parts.second ≡ Ok capture → captured asked.net asked.bits asked.step script capture ≡ Ok whole → script_in asked parts ≡ Ok whole
in_parts asked parts script whole capture first second third =
    ap (λ (r : Result Script Status). r >>= (λ (s : Script). capture_given (capture_of parts.second) >>= (λ (x : Capture). capture_given (captured asked.net asked.bits asked.step s x)))) first
    ∙ ap (λ (r : Result Capture BadCapture). capture_given r >>= (λ (x : Capture). capture_given (captured asked.net asked.bits asked.step script x))) second
    ∙ ap (λ (r : Result Script BadCapture). capture_given r) third

pub made_of : (asked : Asked) (input first second : List ℕ) (script whole : Script) (capture : Capture) → first ≡ (parts_of (codes "capture") input).first → second ≡ (parts_of (codes "capture") input).second → script_given first ≡ Ok script → capture_of second ≡ Ok capture → captured asked.net asked.bits asked.step script capture ≡ Ok whole → script_made asked input ≡ Ok whole
made_of asked input first second script whole capture before behind a b c =
    in_parts asked (parts_of (codes "capture") input) script whole capture (ap script_given (sym before) ∙ a) (ap capture_of (sym behind) ∙ b) c

-- IT IS REFUSED AS A SCRIPT OR A CAPTURE

ready_then : {A B : Type 0} (r : Result A Status) (f : A → Result B Status) → IsReady r → ((x : A) → IsReady (f x)) → IsReady (r >>= f)
ready_then (Ok x) f ready each = each x
ready_then (Err refused) f ready each = ready

ready_capture : {A : Type 0} (r : Result A BadCapture) → IsReady (capture_given r)
ready_capture (Ok x) = tt
ready_capture (Err bad) = tt

ready_script : (r : Result Script BadLine) → IsReady (script_behind 0 r)
ready_script (Ok script) = tt
ready_script (Err bad) = tt

ready_parts : (asked : Asked) (parts : Parts) → IsReady (script_in asked parts)
ready_parts asked parts =
    ready_then (script_given parts.first) (λ (s : Script). capture_given (capture_of parts.second) >>= (λ (x : Capture). capture_given (captured asked.net asked.bits asked.step s x))) (ready_script (script_of parts.first))
    (λ s. ready_then (capture_given (capture_of parts.second)) (λ (x : Capture). capture_given (captured asked.net asked.bits asked.step s x)) (ready_capture (capture_of parts.second)) (λ x. ready_capture (captured asked.net asked.bits asked.step s x)))

pub ready_made : (asked : Asked) (input : List ℕ) → IsReady (script_made asked input)
ready_made asked input = ready_parts asked (parts_of (codes "capture") input)

-- WHAT `CAPTURE` DOES WITH IT

then_then : {A B C : Type 0} (r : Result A Status) (f : A → Result B Status) (g : B → Result C Status) → (r >>= (λ (x : A). f x >>= g)) ≡ ((r >>= f) >>= g)
then_then (Ok x) f g = refl
then_then (Err refused) f g = refl

abbrev task_for : Script → Result Task Status
task_for script = Ok (capture_task (serial_run script))

along : {A B : Type 0} (r : Result A Status) (f g : A → Result B Status) → ((x : A) → f x ≡ g x) → (r >>= f) ≡ (r >>= g)
along (Ok x) f g same = same x
along (Err refused) f g same = refl

abbrev whole_of : Asked → Script → Capture → Result Script Status
whole_of asked script capture = capture_given (captured asked.net asked.bits asked.step script capture)

pub capture_plays : (asked : Asked) (input : List ℕ) → task_of (program.Capture asked.net asked.bits asked.step) input ≡ played (script_made asked input)
capture_plays asked input =
    let parts : Parts = parts_of (codes "capture") input in
    let given : Result Capture Status = capture_given (capture_of parts.second) in
    along (script_given parts.first) (λ (s : Script). given >>= (λ (x : Capture). whole_of asked s x >>= task_for)) (λ (s : Script). (given >>= whole_of asked s) >>= task_for)
    (λ s. then_then given (whole_of asked s) task_for)
    ∙ then_then (script_given parts.first) (λ (s : Script). given >>= whole_of asked s) task_for
