-- What the program does with its input, command by command: how an input is refused, which books are due, what is written of books, and how the program ends (this project's profile).
use Rattle.std.specs.Prelude.{◌≡◌, ℕ, ◌+◌, Bool, true, false, List, [], ◌∷◌, Result, Ok, Err, length, take, drop, codes}
use Rattle.lvs_types.specs.declared.book.RoundBook.{RoundBook}
use Rattle.lvs_types.specs.declared.program.ProgramCommand.{ProgramCommand}
use Rattle.lvs_types.specs.declared.program.ProgramCommand.TheVariants as program
use Rattle.lvs_types.specs.declared.report.Verdict.{Verdict}
use Rattle.lvs_types.specs.declared.report.Verdict.TheVariants as verdict
use Rattle.lvs_types.specs.declared.script.Script.{Script}
use Rattle.lvs_types.specs.declared.script.Round.{Round}
use Rattle.lvs_types.specs.declared.status.Status.{Status}
use Rattle.lvs_types.specs.declared.status.Status.TheVariants as status
use Rattle.lvs_model.specs.declared.capture.BadCapture.{BadCapture}
use Rattle.lvs_model.specs.declared.script.BadLine.{BadLine}
use Rattle.lvs_model.specs.declared.task.ActOrder.{ActOrder}
use Rattle.lvs_model.specs.declared.task.ActOrder.TheVariants.{Serial, Free}
use Rattle.lvs_model.specs.State.{State, initial}
use Rattle.lvs_model.specs.Step.{run}
use Rattle.lvs_model.specs.Snapshots.{snapshot_of}
use Rattle.lvs_model.specs.Books.{IsSerial, at_moment, items_of}
use Rattle.lvs_model.specs.Legal.{AreLegalBooks}
use Rattle.lvs_model.specs.Report.{books_text}
use Rattle.lvs_model.specs.Refusals.{◌>>=◌}
use Rattle.lvs_model.specs.Scripts.{script_of}
use Rattle.lvs_model.specs.Inputs.{Parts, parts_of}
use Rattle.lvs_model.specs.Checking.{judgement}
use Rattle.lvs_model.specs.Verdicts.{verdict_text}
use Rattle.lvs_model.specs.Generated.{generated}
use Rattle.lvs_model.specs.Summaries.{summary_text}
use Rattle.lvs_model.specs.CaptureFiles.{capture_of}
use Rattle.lvs_model.specs.Captured.{captured, sent_capture}
use Rattle.lvs_model.specs.Pairs.{delivered, sent_messages, with_delivered, pair_text}

-- RUNS

-- a script to be run, by so many workers over so many buckets, with its acts in such an order
pub record Run : Type 0 where
  pub script : Script
  pub workers : ℕ
  pub buckets : ℕ
  pub order : ActOrder

-- the acts of each book stand in the one order of `serial`
abbrev pub AreSerial : List Round → List RoundBook → Type 0
AreSerial rounds [] = Unit {0}
AreSerial [] (book ∷ books) = ⊥
AreSerial (round ∷ rounds) (book ∷ books) = IsSerial round book × AreSerial rounds books

abbrev pub AreOrdered : ActOrder → List Round → List RoundBook → Type 0
AreOrdered Serial rounds books = AreSerial rounds books
AreOrdered Free rounds books = Unit {0}

-- legal books of the first rounds of a run, in its order
pub record AreBooksOfRun (r : Run) (books : List RoundBook) : Type 0 where
  pub legal : AreLegalBooks r.workers r.buckets 0 (initial r.script.local r.buckets) r.script.rounds books
  pub order : AreOrdered r.order r.script.rounds books

-- books of runs one after the other: of the first one until each of its rounds has a book, then of the next
abbrev pub AreBooksOfRuns : List Run → List RoundBook → Type 0
AreBooksOfRuns [] books = books ≡ []
AreBooksOfRuns (r ∷ runs) books =
    AreBooksOfRun r (take (length r.script.rounds) books) × AreBooksOfRuns runs (drop (length r.script.rounds) books)

-- how many books are due of runs: one for each round
abbrev pub rounds_due : List Run → ℕ
rounds_due [] = 0
rounds_due (r ∷ runs) = length r.script.rounds + rounds_due runs

abbrev pub serial_run : Script → Run
serial_run script = record { script = script; workers = 1; buckets = 1; order = Serial }

abbrev pub threaded_run : Script → ℕ → ℕ → Run
threaded_run script workers buckets = record { script = script; workers = workers; buckets = buckets; order = Free }

-- TASKS

-- what is to be done with an input that is accepted
pub record Task : Type 0 where
  -- the runs whose books are due, where these are the books so far: a backup's script rests on what its master sent
  pub runs : List RoundBook → List Run
  -- what is written, where these are the books of all rounds
  pub text : List RoundBook → List ℕ
  -- how the program ends once all was written
  pub end : Status

-- books of a task's first rounds
abbrev pub AreBooksOf : Task → List RoundBook → Type 0
AreBooksOf t books = AreBooksOfRuns (t.runs books) books

-- each round of the task has its book
abbrev pub IsPlayedOut : Task → List RoundBook → Type 0
IsPlayedOut t books = length books ≡ rounds_due (t.runs books)

-- one run, whose report is written
abbrev pub report_task : Run → Task
report_task r = record { runs = λ books. r ∷ []; text = books_text; end = status.Finished }

-- the status of a verdict
abbrev pub verdict_end : Verdict → Status
verdict_end verdict.Legal = status.Finished
verdict_end (verdict.Illegal line expected found) = status.Illegal (verdict.Illegal line expected found)
verdict_end (verdict.Unreadable line) = status.Illegal (verdict.Unreadable line)

-- nothing is run, and the verdict is written
abbrev pub verdict_task : Verdict → Task
verdict_task v = record { runs = λ books. []; text = λ books. verdict_text v; end = verdict_end v }

-- the state that books leave, one after the other
abbrev pub state_behind : State → List RoundBook → State
state_behind s [] = s
state_behind s (book ∷ books) = state_behind (run (at_moment s book.moment) (items_of book.acts)).1 books

-- the tables that the books of a run leave
abbrev pub summary_of : Run → List RoundBook → List ℕ
summary_of r books = summary_text books (snapshot_of (state_behind (initial r.script.local r.buckets) books))

-- one run, of which a summary is written
abbrev pub summary_task : Run → Task
summary_task r = record { runs = λ books. r ∷ []; text = summary_of r; end = status.Finished }

-- one run, whose sent packets are written as a capture
abbrev pub capture_task : Run → Task
capture_task r = record { runs = λ books. r ∷ []; text = sent_capture; end = status.Finished }

-- the backup's run, where these are the master's books: its script with the round in which the master's messages arrive
abbrev pub backup_run : List ℕ → Script → List RoundBook → Run
backup_run counts backup books = serial_run (with_delivered (delivered (sent_messages books) counts) backup)

-- the master's run and then the backup's
abbrev pub pair_task : List ℕ → Script → Script → Task
pair_task counts master backup = record {
  runs = λ books. serial_run master ∷ backup_run counts backup (take (length master.rounds) books) ∷ [];
  text = λ books. pair_text (take (length master.rounds) books) (drop (length master.rounds) books);
  end = status.Finished;
}

-- INPUTS

-- the script of a part of the input before which so many lines stand, or its first refused line
abbrev pub script_behind : ℕ → Result Script BadLine → Result Script Status
script_behind lines (Ok script) = Ok script
script_behind lines (Err bad) = Err (status.ScriptRefused (lines + bad.line) bad.cause)

abbrev pub script_given : List ℕ → Result Script Status
script_given bytes = script_behind 0 (script_of bytes)

-- a capture, or a script with its rounds, or the record that is refused
abbrev pub capture_given : {A : Type 0} → Result A BadCapture → Result A Status
capture_given (Ok given) = Ok given
capture_given (Err bad) = Err (status.CaptureRefused bad.at bad.cause)

-- the program reads its input for this command
abbrev pub reads_input : ProgramCommand → Bool
reads_input (program.Demo clients) = false
reads_input other = true

-- the runs of a demonstration: so many clients, 4 workers and 16 buckets
abbrev pub demo_run : ℕ → Run
demo_run clients = threaded_run (generated clients) 4 16

abbrev pub check_input : Parts → Result Task Status
check_input parts = do
  script ← script_given parts.first
  Ok (verdict_task (judgement script parts.second))

abbrev pub pair_input : List ℕ → Parts → Result Task Status
pair_input counts parts = do
  master ← script_given parts.first
  backup ← script_behind parts.lines (script_of parts.second)
  Ok (pair_task counts master backup)

-- what a command does with its whole input, or the status with which it refuses it: a script at its first such line, and then a capture at its first such record
abbrev pub task_of : ProgramCommand → List ℕ → Result Task Status
task_of program.Serial input = do
  script ← script_given input
  Ok (report_task (serial_run script))
task_of (program.Run workers buckets) input = do
  script ← script_given input
  Ok (report_task (threaded_run script workers buckets))
task_of program.Check input = check_input (parts_of (codes "report") input)
task_of (program.Demo clients) input = Ok (summary_task (demo_run clients))
task_of (program.Capture net bits step) input = do
  script ← script_given (parts_of (codes "capture") input).first
  capture ← capture_given (capture_of (parts_of (codes "capture") input).second)
  whole ← capture_given (captured net bits step script capture)
  Ok (capture_task (serial_run whole))
task_of (program.Pair counts) input = pair_input counts (parts_of (codes "backup") input)

-- how the program ends with this input, where there is memory and no read or write fails
abbrev pub end_of : Result Task Status → Status
end_of (Ok t) = t.end
end_of (Err refused) = refused
