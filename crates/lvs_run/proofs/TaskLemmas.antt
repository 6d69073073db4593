-- What each command makes of its input.
use Rattle.std.proofs.Common.{◌≡◌, ℕ, List, [], ◌∷◌, Option, Result, Ok, Err, length, refl, sym, ◌∙◌, ap, subst}
use Rattle.std.specs.Prelude.{codes}
use Rattle.std.specs.Io.KnownBytes.{Appends}
use Rattle.lvs_outside.specs.Faults.{AppendsPrefix}
use Rattle.lvs_types.specs.declared.addr.Addr.{Addr}
use Rattle.lvs_types.specs.declared.book.RoundBook.{RoundBook}
use Rattle.lvs_types.specs.declared.capture.Capture.{Capture}
use Rattle.lvs_types.specs.declared.program.ProgramCommand.{ProgramCommand}
use Rattle.lvs_types.specs.declared.program.ProgramCommand.TheVariants as program
use Rattle.lvs_types.specs.declared.report.Verdict.{Verdict}
use Rattle.lvs_types.specs.declared.report.Verdict.TheVariants as verdict
use Rattle.lvs_types.specs.declared.script.Script.{Script}
use Rattle.lvs_types.specs.declared.status.Status.{Status}
use Rattle.lvs_types.specs.declared.status.Status.TheVariants as status
use Rattle.lvs_model.specs.declared.capture.BadCapture.{BadCapture}
use Rattle.lvs_model.specs.declared.script.BadLine.{BadLine}
use Rattle.lvs_model.specs.CaptureFiles.{capture_of}
use Rattle.lvs_model.specs.Captured.{captured}
use Rattle.lvs_model.specs.Inputs.{Parts, parts_of}
use Rattle.lvs_model.specs.Refusals.{◌>>=◌}
use Rattle.lvs_model.specs.Scripts.{script_of}
use Rattle.lvs_model.specs.Checking.{judgement}
use Rattle.lvs_model.specs.Generated.{generated}
use Rattle.lvs_model.specs.Verdicts.{verdict_text}
use Rattle.lvs_model.specs.Tasks.{Run, Task, task_of, verdict_task, verdict_end, report_task, capture_task, summary_task, summary_of, demo_run, serial_run, threaded_run, script_given, script_behind, capture_given, AreBooksOfRuns, rounds_due}
use Rattle.lvs_run.specs.declared.output.Output.TheVariants as output
use Rattle.lvs_run.specs.declared.writing.Wrote.{Wrote}
use Rattle.lvs_run.specs.declared.writing.Wrote.TheVariants as wrote
use Rattle.lvs_run.specs.Answers.{IsWrittenOf, IsAnswer, IsReady, status_of}
use Rattle.lvs_run.specs.Stages.{IsCompleted, IsRefusal, IsRefusedBy}
use Rattle.lvs_run.specs.Ways.{serial_way, threaded_way}
use Rattle.lvs_run.specs.Written.{IsWrote, IsWrittenOut, AreWritten, IsSent}
use Rattle.lvs_run.proofs.AnswerLemmas.{refused_answer}
use Rattle.lvs_run.proofs.Books.{reports_are, report_is_cut, nothing_appended}
use Rattle.lvs_run.proofs.LegalLemmas.{no_books_of_run}

-- a refusal goes through what would come later
pub passed_on : {A B : Type 0} (r : Result A Status) (f : A → Result B Status) (s : Status) → IsRefusedBy r s → IsRefusedBy (r >>= f) s
passed_on r f status.NoMemory is = tt
passed_on r f (status.ScriptRefused line why) is = rw is refl
passed_on r f (status.CaptureRefused at why) is = rw is refl
passed_on r f status.Finished is = is
passed_on r f (status.WordsRefused at) is = is
passed_on r f status.ReadFault is = is
passed_on r f status.WriteFault is = is
passed_on r f status.ScriptTooLong is = is
passed_on r f (status.Illegal verdict) is = is

-- an input that is refused is so for its script or its capture
abbrev IsRefused : {A : Type 0} → Result A Status → Type 0
IsRefused {A = A} (Ok given) = Unit {0}
IsRefused {A = A} (Err refused) = IsRefusal refused

script_refused : (lines : ℕ) (r : Result Script BadLine) → IsRefused (script_behind lines r)
script_refused lines (Ok script) = tt
script_refused lines (Err bad) = tt

capture_refused : {A : Type 0} (r : Result A BadCapture) → IsRefused (capture_given r)
capture_refused (Ok given) = tt
capture_refused (Err bad) = tt

abbrev ready_then : {A : Type 0} → (A → Result Task Status) → Result A Status → Type 0
ready_then {A = A} f r = IsReady (r >>= f)

ready_by : {A : Type 0} (r : Result A Status) (f : A → Result Task Status) → IsRefused r → ((given : A) → IsReady (f given)) → IsReady (r >>= f)
ready_by (Ok given) f is each = each given
ready_by (Err refused) f is each = is

ready_run : (script : Script) → IsReady (Ok (report_task (serial_run script)))
ready_run script = (tt, no_books_of_run serial_way script)

ready_capture : (script : Script) → IsReady (Ok (capture_task (serial_run script)))
ready_capture script = (tt, no_books_of_run serial_way script)

-- THE REPORT OF A SCRIPT

pub ready_serial : (input : List ℕ) → IsReady (task_of program.Serial input)
ready_serial input = ready_by (script_given input) (λ (script : Script). Ok (report_task (serial_run script))) (script_refused 0 (script_of input)) ready_run

report_of : (script : Script) (old new : Option (List ℕ)) (books : List RoundBook) (w : Wrote) → (w ≡ wrote.All → length books ≡ rounds_due (serial_run script ∷ [])) → AreWritten output.Report old new books w → IsWrittenOf program.Serial (report_task (serial_run script)) old new books w
report_of script old new books wrote.All all written = (all refl, subst (λ (t : List ℕ). Appends old new t) (reports_are books) written)
report_of script old new books wrote.Prefix all written = report_is_cut old new books written
report_of script old new books wrote.NoMemory all written = subst (λ (t : List ℕ). AppendsPrefix old new t) (reports_are books) written

answer_with : (command : ProgramCommand) (r : Result Task Status) (task : Task) (old new : Option (List ℕ)) (s : Status) (books : List RoundBook) → r ≡ Ok task → IsAnswer command (Ok task) old new s books → IsAnswer command r old new s books
answer_with command r task old new s books is answer = subst (λ (x : Result Task Status). IsAnswer command x old new s books) (sym is) answer

pub report_answer : (input : List ℕ) (script : Script) (old new : Option (List ℕ)) (s : Status) (books all_books : List RoundBook) (w : Wrote) → script_given input ≡ Ok script → s ≡ status_of status.Finished w → all_books ≡ books → AreBooksOfRuns (serial_run script ∷ []) books → (w ≡ wrote.All → length books ≡ rounds_due (serial_run script ∷ [])) → AreWritten output.Report old new books w → IsAnswer program.Serial (task_of program.Serial input) old new s all_books
report_answer input script old new s books all_books w given is same are all written =
    let task : Task = report_task (serial_run script) in
    let found : task_of program.Serial input ≡ Ok task = rw given refl in
    subst (λ (l : List RoundBook). IsAnswer program.Serial (task_of program.Serial input) old new s l) (sym same)
    (answer_with program.Serial (task_of program.Serial input) task old new s books found (w, is, tt, are, report_of script old new books w all written))

pub serial_refused : (input : List ℕ) (old new : Option (List ℕ)) (found s : Status) (books : List RoundBook) → IsRefusedBy (script_given input) found → s ≡ found → new ≡ old → books ≡ [] → IsAnswer program.Serial (task_of program.Serial input) old new s books
serial_refused input old new found s books is same kept none =
    subst (λ (t : Status). IsAnswer program.Serial (task_of program.Serial input) old new t books) (sym same)
    (refused_answer program.Serial (task_of program.Serial input) old new found books (passed_on (script_given input) (λ (script : Script). Ok (report_task (serial_run script))) found is) (ready_serial input) (λ task. nothing_appended old new (task.text []) kept) kept none)

-- THE REPORT OF A RUN WITH THREADS

abbrev run_task : ℕ → ℕ → Script → Result Task Status
run_task workers buckets script = Ok (report_task (threaded_run script workers buckets))

ready_threaded : (workers buckets : ℕ) (script : Script) → IsReady (run_task workers buckets script)
ready_threaded workers buckets script = (tt, no_books_of_run (threaded_way workers buckets) script)

ready_run_of : (workers buckets : ℕ) (input : List ℕ) → IsReady (task_of (program.Run workers buckets) input)
ready_run_of workers buckets input = ready_by (script_given input) (run_task workers buckets) (script_refused 0 (script_of input)) (ready_threaded workers buckets)

threaded_report : (workers buckets : ℕ) (script : Script) (old new : Option (List ℕ)) (books : List RoundBook) (w : Wrote) → (w ≡ wrote.All → length books ≡ rounds_due (threaded_run script workers buckets ∷ [])) → AreWritten output.Report old new books w → IsWrittenOf (program.Run workers buckets) (report_task (threaded_run script workers buckets)) old new books w
threaded_report workers buckets script old new books wrote.All all written = (all refl, subst (λ (t : List ℕ). Appends old new t) (reports_are books) written)
threaded_report workers buckets script old new books wrote.Prefix all written = report_is_cut old new books written
threaded_report workers buckets script old new books wrote.NoMemory all written = subst (λ (t : List ℕ). AppendsPrefix old new t) (reports_are books) written

pub run_answer : (workers buckets : ℕ) (input : List ℕ) (script : Script) (old new : Option (List ℕ)) (s : Status) (books all_books : List RoundBook) (w : Wrote) → script_given input ≡ Ok script → s ≡ status_of status.Finished w → all_books ≡ books → AreBooksOfRuns (threaded_run script workers buckets ∷ []) books → (w ≡ wrote.All → length books ≡ rounds_due (threaded_run script workers buckets ∷ [])) → AreWritten output.Report old new books w → IsAnswer (program.Run workers buckets) (task_of (program.Run workers buckets) input) old new s all_books
run_answer workers buckets input script old new s books all_books w given is same are all written =
    let task : Task = report_task (threaded_run script workers buckets) in
    let found : task_of (program.Run workers buckets) input ≡ Ok task = rw given refl in
    subst (λ (l : List RoundBook). IsAnswer (program.Run workers buckets) (task_of (program.Run workers buckets) input) old new s l) (sym same)
    (answer_with (program.Run workers buckets) (task_of (program.Run workers buckets) input) task old new s books found (w, is, tt, are, threaded_report workers buckets script old new books w all written))

pub run_refused : (workers buckets : ℕ) (input : List ℕ) (old new : Option (List ℕ)) (found s : Status) (books : List RoundBook) → IsRefusedBy (script_given input) found → s ≡ found → new ≡ old → books ≡ [] → IsAnswer (program.Run workers buckets) (task_of (program.Run workers buckets) input) old new s books
run_refused workers buckets input old new found s books is same kept none =
    subst (λ (t : Status). IsAnswer (program.Run workers buckets) (task_of (program.Run workers buckets) input) old new t books) (sym same)
    (refused_answer (program.Run workers buckets) (task_of (program.Run workers buckets) input) old new found books (passed_on (script_given input) (run_task workers buckets) found is) (ready_run_of workers buckets input) (λ task. nothing_appended old new (task.text []) kept) kept none)

-- THE SUMMARY OF A DEMONSTRATION

abbrev demo_task : ℕ → Task
demo_task clients = summary_task (demo_run clients)

abbrev demo_script : Script → Run
demo_script script = threaded_run script 4 16

summary_told : (clients : ℕ) (old new : Option (List ℕ)) (books : List RoundBook) (w : Wrote) → (w ≡ wrote.All → length books ≡ rounds_due (demo_run clients ∷ [])) → IsWrittenOut old new (summary_of (demo_run clients) books) w → IsWrittenOf (program.Demo clients) (demo_task clients) old new books w
summary_told clients old new books wrote.All all written = (all refl, written)
summary_told clients old new books wrote.Prefix all written = written
summary_told clients old new books wrote.NoMemory all written = written

-- of the generated script
demo_answer_of : (clients : ℕ) (old new : Option (List ℕ)) (s : Status) (books all_books : List RoundBook) (w : Wrote) → s ≡ status_of status.Finished w → all_books ≡ books → AreBooksOfRuns (demo_run clients ∷ []) books → (w ≡ wrote.All → length books ≡ rounds_due (demo_run clients ∷ [])) → IsWrittenOut old new (summary_of (demo_run clients) books) w → IsAnswer (program.Demo clients) (Ok (demo_task clients)) old new s all_books
demo_answer_of clients old new s books all_books w is same are all written =
    subst (λ (l : List RoundBook). IsAnswer (program.Demo clients) (Ok (demo_task clients)) old new s l) (sym same) (w, is, tt, are, summary_told clients old new books w all written)

pub demo_answer : (clients : ℕ) (script : Script) (old new : Option (List ℕ)) (s : Status) (books all_books : List RoundBook) (w : Wrote) → script ≡ generated clients → s ≡ status_of status.Finished w → all_books ≡ books → AreBooksOfRuns (demo_script script ∷ []) books → (w ≡ wrote.All → length books ≡ rounds_due (demo_script script ∷ [])) → IsWrittenOut old new (summary_of (demo_script script) books) w → IsAnswer (program.Demo clients) (Ok (demo_task clients)) old new s all_books
demo_answer clients script old new s books all_books w made is same are all written =
    demo_answer_of clients old new s books all_books w is same
    (subst (λ (x : Script). AreBooksOfRuns (demo_script x ∷ []) books) made are)
    (subst (λ (x : Script). w ≡ wrote.All → length books ≡ rounds_due (demo_script x ∷ [])) made all)
    (subst (λ (x : Script). IsWrittenOut old new (summary_of (demo_script x) books) w) made written)

-- without memory for its script
pub demo_unmade : (clients : ℕ) (old new : Option (List ℕ)) (s : Status) (books : List RoundBook) → s ≡ status.NoMemory → new ≡ old → books ≡ [] → IsAnswer (program.Demo clients) (Ok (demo_task clients)) old new s books
demo_unmade clients old new s books is kept none =
    subst (λ (l : List RoundBook). IsAnswer (program.Demo clients) (Ok (demo_task clients)) old new s l) (sym none)
    (wrote.NoMemory, is, tt, no_books_of_run (threaded_way 4 16) (generated clients), nothing_appended old new (summary_of (demo_run clients) []) kept)

-- A VERDICT

verdict_completed : (v : Verdict) → IsCompleted (verdict_end v)
verdict_completed verdict.Legal = tt
verdict_completed (verdict.Illegal line expected found) = tt
verdict_completed (verdict.Unreadable line) = tt

abbrev reported : List ℕ → Parts
reported input = parts_of (codes "report") input

abbrev with_report : List ℕ → Script → Result Task Status
with_report report script = Ok (verdict_task (judgement script report))

pub ready_check : (input : List ℕ) → IsReady (task_of program.Check input)
ready_check input =
    ready_by (script_given (reported input).first) (with_report (reported input).second) (script_refused 0 (script_of (reported input).first)) (λ script. (verdict_completed (judgement script (reported input).second), refl))

pub verdict_given : (input first second : List ℕ) (script : Script) (v : Verdict) → first ≡ (reported input).first → second ≡ (reported input).second → script_given first ≡ Ok script → v ≡ judgement script second → task_of program.Check input ≡ Ok (verdict_task v)
verdict_given input first second script v one two given is =
    let here : script_given (reported input).first ≡ Ok script = ap script_given (sym one) ∙ given in
    let same : judgement script (reported input).second ≡ v = ap (judgement script) (sym two) ∙ sym is in
    rw here (ap (λ (w : Verdict). Ok (verdict_task w)) same)

pub refused_report : (input first : List ℕ) (s : Status) → first ≡ (reported input).first → IsRefusedBy (script_given first) s → IsRefusedBy (task_of program.Check input) s
refused_report input first s one is =
    passed_on (script_given (reported input).first) (with_report (reported input).second) s (subst (λ (l : List ℕ). IsRefusedBy (script_given l) s) one is)

told_of : (v : Verdict) (old new : Option (List ℕ)) (w : Wrote) → IsWrote old new (verdict_text v) w → IsWrittenOf program.Check (verdict_task v) old new [] w
told_of v old new wrote.All written = (refl, written)
told_of v old new wrote.Prefix written = written
told_of v old new wrote.NoMemory written = nothing_appended old new (verdict_text v) written

pub check_answer : (input : List ℕ) (v : Verdict) (old new : Option (List ℕ)) (s end : Status) (books : List RoundBook) (w : Wrote) → task_of program.Check input ≡ Ok (verdict_task v) → s ≡ status_of end w → end ≡ verdict_end v → books ≡ [] → IsWrote old new (verdict_text v) w → IsAnswer program.Check (task_of program.Check input) old new s books
check_answer input v old new s end books w found is ends none written =
    let P : List RoundBook → Type 0 = λ l. IsAnswer program.Check (task_of program.Check input) old new s l in
    subst P (sym none) (answer_with program.Check (task_of program.Check input) (verdict_task v) old new s [] found (w, is ∙ ap (λ (e : Status). status_of e w) ends, verdict_completed v, refl, told_of v old new w written))

pub check_refused : (input : List ℕ) (old new : Option (List ℕ)) (found s : Status) (books : List RoundBook) → IsRefusedBy (task_of program.Check input) found → s ≡ found → new ≡ old → books ≡ [] → IsAnswer program.Check (task_of program.Check input) old new s books
check_refused input old new found s books is same kept none =
    subst (λ (t : Status). IsAnswer program.Check (task_of program.Check input) old new t books) (sym same)
    (refused_answer program.Check (task_of program.Check input) old new found books is (ready_check input) (λ task. nothing_appended old new (task.text []) kept) kept none)

-- A CAPTURE

abbrev with_capture : Addr → ℕ → ℕ → Script → Capture → Result Task Status
with_capture net bits step script capture = capture_given (captured net bits step script capture) >>= (λ (whole : Script). Ok (capture_task (serial_run whole)))

abbrev with_file : Addr → ℕ → ℕ → List ℕ → Script → Result Task Status
with_file net bits step second script = capture_given (capture_of second) >>= with_capture net bits step script

ready_file : (net : Addr) (bits step : ℕ) (second : List ℕ) (script : Script) → IsReady (with_file net bits step second script)
ready_file net bits step second script =
    ready_by (capture_given (capture_of second)) (with_capture net bits step script) (capture_refused (capture_of second)) (λ capture. ready_by (capture_given (captured net bits step script capture)) (λ (whole : Script). Ok (capture_task (serial_run whole))) (capture_refused (captured net bits step script capture)) ready_capture)

pub ready_captured : (net : Addr) (bits step : ℕ) (input : List ℕ) → IsReady (task_of (program.Capture net bits step) input)
ready_captured net bits step input =
    let parts : Parts = parts_of (codes "capture") input in
    ready_by (script_given parts.first) (with_file net bits step parts.second) (script_refused 0 (script_of parts.first)) (ready_file net bits step parts.second)

abbrev parts_for : List ℕ → Parts
parts_for input = parts_of (codes "capture") input

pub captured_task : (net : Addr) (bits step : ℕ) (input first second : List ℕ) (script whole : Script) (capture : Capture) → first ≡ (parts_for input).first → second ≡ (parts_for input).second → script_given first ≡ Ok script → capture_of second ≡ Ok capture → captured net bits step script capture ≡ Ok whole → task_of (program.Capture net bits step) input ≡ Ok (capture_task (serial_run whole))
captured_task net bits step input first second script whole capture one two given read made =
    let here : script_given (parts_for input).first ≡ Ok script = ap script_given (sym one) ∙ given in
    let there : capture_of (parts_for input).second ≡ Ok capture = ap capture_of (sym two) ∙ read in
    rw (here, there, made) refl

-- refused at its script, at its file, and at a packet
pub refused_script : (net : Addr) (bits step : ℕ) (input first : List ℕ) (s : Status) → first ≡ (parts_for input).first → IsRefusedBy (script_given first) s → IsRefusedBy (task_of (program.Capture net bits step) input) s
refused_script net bits step input first s one is =
    passed_on (script_given (parts_for input).first) (with_file net bits step (parts_for input).second) s (subst (λ (l : List ℕ). IsRefusedBy (script_given l) s) one is)

along_ok : {A : Type 0} (r : Result A Status) (f : A → Result Task Status) (given : A) (s : Status) → r ≡ Ok given → IsRefusedBy (f given) s → IsRefusedBy (r >>= f) s
along_ok r f given s is refused = rw is refused

pub refused_file : (net : Addr) (bits step : ℕ) (input first second : List ℕ) (script : Script) (s : Status) → first ≡ (parts_for input).first → second ≡ (parts_for input).second → script_given first ≡ Ok script → IsRefusedBy (capture_given (capture_of second)) s → IsRefusedBy (task_of (program.Capture net bits step) input) s
refused_file net bits step input first second script s one two given is =
    let here : script_given (parts_for input).first ≡ Ok script = ap script_given (sym one) ∙ given in
    along_ok (script_given (parts_for input).first) (with_file net bits step (parts_for input).second) script s here
    (passed_on (capture_given (capture_of (parts_for input).second)) (with_capture net bits step script) s (subst (λ (l : List ℕ). IsRefusedBy (capture_given (capture_of l)) s) two is))

given_as : (r : Result Capture BadCapture) (capture : Capture) → r ≡ Ok capture → capture_given r ≡ Ok capture
given_as r capture is = rw is refl

pub refused_packet : (net : Addr) (bits step : ℕ) (input first second : List ℕ) (script : Script) (capture : Capture) (s : Status) → first ≡ (parts_for input).first → second ≡ (parts_for input).second → script_given first ≡ Ok script → capture_of second ≡ Ok capture → IsRefusedBy (capture_given (captured net bits step script capture)) s → IsRefusedBy (task_of (program.Capture net bits step) input) s
refused_packet net bits step input first second script capture s one two given read is =
    let here : script_given (parts_for input).first ≡ Ok script = ap script_given (sym one) ∙ given in
    let there : capture_given (capture_of (parts_for input).second) ≡ Ok capture = given_as (capture_of (parts_for input).second) capture (ap capture_of (sym two) ∙ read) in
    along_ok (script_given (parts_for input).first) (with_file net bits step (parts_for input).second) script s here
    (along_ok (capture_given (capture_of (parts_for input).second)) (with_capture net bits step script) capture s there
    (passed_on (capture_given (captured net bits step script capture)) (λ (whole : Script). Ok (capture_task (serial_run whole))) s is))

sent_of : (net : Addr) (bits step : ℕ) (script : Script) (old new : Option (List ℕ)) (books : List RoundBook) (w : Wrote) → (w ≡ wrote.All → length books ≡ rounds_due (serial_run script ∷ [])) → IsSent old new books w → IsWrittenOf (program.Capture net bits step) (capture_task (serial_run script)) old new books w
sent_of net bits step script old new books wrote.All all written = (all refl, written)
sent_of net bits step script old new books wrote.Prefix all written = written
sent_of net bits step script old new books wrote.NoMemory all written = written

pub capture_answer : (net : Addr) (bits step : ℕ) (input : List ℕ) (script : Script) (old new : Option (List ℕ)) (s : Status) (books all_books : List RoundBook) (w : Wrote) → task_of (program.Capture net bits step) input ≡ Ok (capture_task (serial_run script)) → s ≡ status_of status.Finished w → all_books ≡ books → AreBooksOfRuns (serial_run script ∷ []) books → (w ≡ wrote.All → length books ≡ rounds_due (serial_run script ∷ [])) → IsSent old new books w → IsAnswer (program.Capture net bits step) (task_of (program.Capture net bits step) input) old new s all_books
capture_answer net bits step input script old new s books all_books w found is same are all written =
    subst (λ (l : List RoundBook). IsAnswer (program.Capture net bits step) (task_of (program.Capture net bits step) input) old new s l) (sym same)
    (answer_with (program.Capture net bits step) (task_of (program.Capture net bits step) input) (capture_task (serial_run script)) old new s books found (w, is, tt, are, sent_of net bits step script old new books w all written))

pub captured_refused : (net : Addr) (bits step : ℕ) (input : List ℕ) (old new : Option (List ℕ)) (found s : Status) (books : List RoundBook) → IsRefusedBy (task_of (program.Capture net bits step) input) found → s ≡ found → new ≡ old → books ≡ [] → IsAnswer (program.Capture net bits step) (task_of (program.Capture net bits step) input) old new s books
captured_refused net bits step input old new found s books is same kept none =
    subst (λ (t : Status). IsAnswer (program.Capture net bits step) (task_of (program.Capture net bits step) input) old new t books) (sym same)
    (refused_answer (program.Capture net bits step) (task_of (program.Capture net bits step) input) old new found books is (ready_captured net bits step input) (λ task. nothing_appended old new (task.text []) kept) kept none)
