-- What a call answers, by what its command does with the input.
use Rattle.std.specs.Prelude.{◌≡◌, ◌⊎◌, ℕ, Bool, true, false, List, [], Option, Result, Ok, Err}
use Rattle.std.specs.Io.KnownBytes.{Appends, Consumes, IsAtEnd}
use Rattle.lvs_outside.specs.Faults.{AppendsPrefix, AppendsProperPrefix}
use Rattle.lvs_types.specs.declared.book.RoundBook.{RoundBook}
use Rattle.lvs_types.specs.declared.program.ProgramCommand.{ProgramCommand}
use Rattle.lvs_types.specs.declared.program.ProgramCommand.TheVariants as program
use Rattle.lvs_types.specs.declared.status.Status.{Status}
use Rattle.lvs_types.specs.declared.status.Status.TheVariants as status
use Rattle.lvs_model.specs.Tasks.{Task, AreBooksOf, IsPlayedOut, reads_input}
use Rattle.lvs_run.specs.declared.writing.Wrote.{Wrote}
use Rattle.lvs_run.specs.declared.writing.Wrote.TheVariants as wrote
use Rattle.lvs_run.specs.Stages.{IsCompleted, IsRefusal}
use Rattle.lvs_run.specs.Written.{AppendsAllButLast}

-- where the input is read, the source gave these bytes and is at its end; where it isn't, it gave none
abbrev pub IsReadFor : Bool → Option (List ℕ) → Option (List ℕ) → List ℕ → Type 0
IsReadFor true left_before left input = Consumes left_before left input × IsAtEnd left
IsReadFor false left_before left input = (left ≡ left_before) × (input ≡ [])

-- this is the command that was asked for, and its whole input
pub record IsGiven (asked : Result ProgramCommand ℕ) (left_before left : Option (List ℕ)) (command : ProgramCommand) (input : List ℕ) : Type 0 where
  pub asked_for : asked ≡ Ok command
  pub read : IsReadFor (reads_input command) left_before left input

-- the task was carried out: its status, its books, and its whole text
pub record IsCarriedOut (task : Task) (written_before written : Option (List ℕ)) (ended : Status) (books : List RoundBook) : Type 0 where
  pub end : ended ≡ task.end
  pub books_are : AreBooksOf task books
  pub all : IsPlayedOut task books
  pub text : Appends written_before written (task.text books)

-- what was written where the sink failed: of reports all but the last, and not the whole last one; else a part of the text
abbrev pub IsCutOff : ProgramCommand → Task → Option (List ℕ) → Option (List ℕ) → List RoundBook → Type 0
IsCutOff program.Serial task old new books = AppendsAllButLast old new books
IsCutOff (program.Run workers buckets) task old new books = AppendsAllButLast old new books
IsCutOff other task old new books = AppendsProperPrefix old new (task.text books)

-- how far a task was written
abbrev pub IsWrittenOf : ProgramCommand → Task → Option (List ℕ) → Option (List ℕ) → List RoundBook → Wrote → Type 0
IsWrittenOf command task old new books wrote.All = IsPlayedOut task books × Appends old new (task.text books)
IsWrittenOf command task old new books wrote.Prefix = IsCutOff command task old new books
IsWrittenOf command task old new books wrote.NoMemory = AppendsPrefix old new (task.text books)

-- the status of a task that was written so far
abbrev pub status_of : Status → Wrote → Status
status_of end wrote.All = end
status_of end wrote.Prefix = status.WriteFault
status_of end wrote.NoMemory = status.NoMemory

-- what is answered once the input was read
abbrev pub IsAnswer : ProgramCommand → Result Task Status → Option (List ℕ) → Option (List ℕ) → Status → List RoundBook → Type 0
IsAnswer command (Err refused) old new ended books = IsRefusal refused × ((ended ≡ refused) ⊎ (ended ≡ status.NoMemory)) × (new ≡ old) × (books ≡ [])
IsAnswer command (Ok task) old new ended books =
    (w : Wrote) × (ended ≡ status_of task.end w) × IsCompleted task.end × AreBooksOf task books × IsWrittenOf command task old new books w

-- what a command makes of an input before anything is played
abbrev pub IsReady : Result Task Status → Type 0
IsReady (Err refused) = IsRefusal refused
IsReady (Ok task) = IsCompleted task.end × AreBooksOf task []
