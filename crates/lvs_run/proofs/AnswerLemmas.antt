-- What an answer says of the input's task.
use Rattle.std.proofs.Common.{◌≡◌, ◌≢◌, ℕ, ◌+◌, ◌≤◌, ◌⊎◌, inl, inr, List, [], ◌++◌, Option, Some, None, Result, Ok, Err, length, refl, sym, ◌∙◌, ap, subst, append-nil, length-append, arith}
use Rattle.std.specs.Io.KnownBytes.{Consumes, IsAtEnd}
use Rattle.lvs_types.specs.declared.book.RoundBook.{RoundBook}
use Rattle.lvs_types.specs.declared.program.ProgramCommand.{ProgramCommand}
use Rattle.lvs_types.specs.declared.program.ProgramCommand.TheVariants as program
use Rattle.lvs_types.specs.declared.status.Status.{Status}
use Rattle.lvs_types.specs.declared.status.Status.TheVariants as status
use Rattle.lvs_model.specs.Tasks.{Task, task_of, AreBooksOf, reads_input}
use Rattle.lvs_outside.specs.Faults.{Rose, AppendsPrefix}
use Rattle.lvs_run.specs.declared.writing.Wrote.{Wrote}
use Rattle.lvs_run.specs.declared.writing.Wrote.TheVariants as wrote
use Rattle.lvs_run.specs.Answers.{IsReadFor, IsGiven, IsCarriedOut, IsCutOff, IsWrittenOf, status_of, IsAnswer, IsReady}
use Rattle.lvs_run.specs.Stages.{IsCompleted, IsRefusal, IsUnread, IsRefusedBy}

-- STATUSES

-- a status that comes once the input was read
pub record IsLate (s : Status) : Type 0 where
  pub words : (at : ℕ) → s ≢ status.WordsRefused at
  pub read_fault : s ≢ status.ReadFault
  pub too_long : s ≢ status.ScriptTooLong

late_completed : (s : Status) → IsCompleted s → IsLate s
late_completed status.Finished is = record { words = λ at e. cc; read_fault = λ e. cc; too_long = λ e. cc }
late_completed (status.Illegal verdict) is = record { words = λ at e. cc; read_fault = λ e. cc; too_long = λ e. cc }
late_completed (status.ScriptRefused line why) is = absurd is
late_completed (status.WordsRefused at) is = absurd is
late_completed status.ReadFault is = absurd is
late_completed status.WriteFault is = absurd is
late_completed status.NoMemory is = absurd is
late_completed status.ScriptTooLong is = absurd is
late_completed (status.CaptureRefused at why) is = absurd is

late_refusal : (s : Status) → IsRefusal s → IsLate s
late_refusal (status.ScriptRefused line why) is = record { words = λ at e. cc; read_fault = λ e. cc; too_long = λ e. cc }
late_refusal (status.CaptureRefused at why) is = record { words = λ at e. cc; read_fault = λ e. cc; too_long = λ e. cc }
late_refusal status.Finished is = absurd is
late_refusal (status.Illegal verdict) is = absurd is
late_refusal (status.WordsRefused at) is = absurd is
late_refusal status.ReadFault is = absurd is
late_refusal status.WriteFault is = absurd is
late_refusal status.NoMemory is = absurd is
late_refusal status.ScriptTooLong is = absurd is

late_memory : IsLate status.NoMemory
late_memory = record { words = λ at e. cc; read_fault = λ e. cc; too_long = λ e. cc }

late_fault : IsLate status.WriteFault
late_fault = record { words = λ at e. cc; read_fault = λ e. cc; too_long = λ e. cc }

late_along : (s t : Status) → s ≡ t → IsLate t → IsLate s
late_along s t same late = subst IsLate (sym same) late

late_one : (s refused : Status) → IsRefusal refused → (s ≡ refused) ⊎ (s ≡ status.NoMemory) → IsLate s
late_one s refused is (inl same) = late_along s refused same (late_refusal refused is)
late_one s refused is (inr same) = late_along s status.NoMemory same late_memory

late_wrote : (s end : Status) (w : Wrote) → IsCompleted end → s ≡ status_of end w → IsLate s
late_wrote s end wrote.All is same = late_along s end same (late_completed end is)
late_wrote s end wrote.Prefix is same = late_along s status.WriteFault same late_fault
late_wrote s end wrote.NoMemory is same = late_along s status.NoMemory same late_memory

pub late : (command : ProgramCommand) (r : Result Task Status) (old new : Option (List ℕ)) (s : Status) (books : List RoundBook) → IsAnswer command r old new s books → IsLate s
late command (Err refused) old new s books answer = late_one s refused answer.0 answer.1
late command (Ok task) old new s books answer = late_wrote s task.end answer.0 answer.2 answer.1

-- a completed call isn't one that stopped
completed_fault : (s : Status) → IsCompleted s → s ≡ status.WriteFault → ⊥
completed_fault s is same = subst IsCompleted same is

completed_memory : (s : Status) → IsCompleted s → s ≡ status.NoMemory → ⊥
completed_memory s is same = subst IsCompleted same is

-- a refusal is neither completed, nor did the call stop
refusal_completed : (s : Status) → IsRefusal s → IsCompleted s → ⊥
refusal_completed (status.ScriptRefused line why) is done = done
refusal_completed (status.CaptureRefused at why) is done = done
refusal_completed status.Finished is done = is
refusal_completed (status.Illegal verdict) is done = is
refusal_completed (status.WordsRefused at) is done = is
refusal_completed status.ReadFault is done = is
refusal_completed status.WriteFault is done = is
refusal_completed status.NoMemory is done = is
refusal_completed status.ScriptTooLong is done = is

-- COMPLETED

abbrev Completed : Result Task Status → Option (List ℕ) → Option (List ℕ) → Status → List RoundBook → Type 0
Completed r old new s books = (task : Task) × (r ≡ Ok task) × IsCarriedOut task old new s books

refused_completed : (r : Result Task Status) (old new : Option (List ℕ)) (s refused : Status) (books : List RoundBook) → IsRefusal refused → (s ≡ refused) ⊎ (s ≡ status.NoMemory) → IsCompleted s → Completed r old new s books
refused_completed r old new s refused books is (inl same) done = absurd (refusal_completed refused is (subst IsCompleted same done))
refused_completed r old new s refused books is (inr same) done = absurd (completed_memory s done same)

wrote_completed : (command : ProgramCommand) (task : Task) (old new : Option (List ℕ)) (s : Status) (books : List RoundBook) (w : Wrote) → s ≡ status_of task.end w → AreBooksOf task books → IsWrittenOf command task old new books w → IsCompleted s → Completed (Ok task) old new s books
wrote_completed command task old new s books wrote.All same are written done = (task, refl, record { end = same; books_are = are; all = written.0; text = written.1 })
wrote_completed command task old new s books wrote.Prefix same are written done = absurd (completed_fault s done same)
wrote_completed command task old new s books wrote.NoMemory same are written done = absurd (completed_memory s done same)

pub completed_of : (command : ProgramCommand) (r : Result Task Status) (old new : Option (List ℕ)) (s : Status) (books : List RoundBook) → IsAnswer command r old new s books → IsCompleted s → Completed r old new s books
completed_of command (Err refused) old new s books answer done = refused_completed (Err refused) old new s refused books answer.0 answer.1 done
completed_of command (Ok task) old new s books answer done = wrote_completed command task old new s books answer.0 answer.1 answer.3 answer.4 done

-- ROUNDS

pub first_of : (command : ProgramCommand) (r : Result Task Status) (old new : Option (List ℕ)) (s : Status) (books : List RoundBook) → IsAnswer command r old new s books → books ≢ [] → (task : Task) × (r ≡ Ok task) × AreBooksOf task books
first_of command (Err refused) old new s books answer some = absurd (some answer.3)
first_of command (Ok task) old new s books answer some = (task, refl, answer.3)

-- REFUSALS

memory_no_refusal : (s : Status) → s ≡ status.NoMemory → IsRefusal s → ⊥
memory_no_refusal s same is = subst IsRefusal same is

refused_is : (s refused : Status) → (s ≡ refused) ⊎ (s ≡ status.NoMemory) → IsRefusal s → ◌≡◌ {A = Result Task Status} (Err refused) (Err s)
refused_is s refused (inl same) is = ap (λ (t : Status). Err t) (sym same)
refused_is s refused (inr same) is = absurd (memory_no_refusal s same is)

wrote_refusal : (s end : Status) (w : Wrote) → IsCompleted end → s ≡ status_of end w → IsRefusal s → ⊥
wrote_refusal s end wrote.All done same is = refusal_completed end (subst IsRefusal same is) done
wrote_refusal s end wrote.Prefix done same is = subst IsRefusal same is
wrote_refusal s end wrote.NoMemory done same is = subst IsRefusal same is

pub refusal_of : (command : ProgramCommand) (r : Result Task Status) (old new : Option (List ℕ)) (s : Status) (books : List RoundBook) → IsAnswer command r old new s books → IsRefusal s → r ≡ Err s
refusal_of command (Err refused) old new s books answer is = refused_is s refused answer.1 is
refusal_of command (Ok task) old new s books answer is = absurd (wrote_refusal s task.end answer.0 answer.2 answer.1 is)

-- AN ACCEPTED INPUT, AND A REFUSED ONE

wrote_ends : (s end : Status) (w : Wrote) → s ≡ status_of end w → s ≢ status.WriteFault → (s ≡ end) ⊎ (s ≡ status.NoMemory)
wrote_ends s end wrote.All same calm = inl same
wrote_ends s end wrote.Prefix same calm = absurd (calm same)
wrote_ends s end wrote.NoMemory same calm = inr same

accepted_ends : (command : ProgramCommand) (task : Task) (old new : Option (List ℕ)) (s : Status) (books : List RoundBook) → IsAnswer command (Ok task) old new s books → s ≢ status.WriteFault → (s ≡ task.end) ⊎ (s ≡ status.NoMemory)
accepted_ends command task old new s books answer calm = wrote_ends s task.end answer.0 answer.1 calm

refused_ends : (command : ProgramCommand) (refused : Status) (old new : Option (List ℕ)) (s : Status) (books : List RoundBook) → IsAnswer command (Err refused) old new s books → (s ≡ refused) ⊎ (s ≡ status.NoMemory)
refused_ends command refused old new s books answer = answer.1

-- A CALL THAT STOPPED

one_stops : (s refused : Status) → IsRefusal refused → (s ≡ refused) ⊎ (s ≡ status.NoMemory) → s ≡ status.WriteFault → ⊥
one_stops s refused is (inl same) fault = subst IsRefusal (sym same ∙ fault) is
one_stops s refused is (inr same) fault = let both : status.NoMemory ≡ status.WriteFault = sym same ∙ fault in cc

wrote_cut : (command : ProgramCommand) (task : Task) (old new : Option (List ℕ)) (s : Status) (books : List RoundBook) (w : Wrote) → s ≡ status_of task.end w → IsCompleted task.end → IsWrittenOf command task old new books w → s ≡ status.WriteFault → IsCutOff command task old new books
wrote_cut command task old new s books wrote.All same done written fault = absurd (completed_fault task.end done (sym same ∙ fault))
wrote_cut command task old new s books wrote.Prefix same done written fault = written
wrote_cut command task old new s books wrote.NoMemory same done written fault = let both : status.NoMemory ≡ status.WriteFault = sym same ∙ fault in cc

pub cut_of : (command : ProgramCommand) (r : Result Task Status) (old new : Option (List ℕ)) (s : Status) (books : List RoundBook) → IsAnswer command r old new s books → s ≡ status.WriteFault → (task : Task) × (r ≡ Ok task) × IsCutOff command task old new books
cut_of command (Err refused) old new s books answer fault = absurd (one_stops s refused answer.0 answer.1 fault)
cut_of command (Ok task) old new s books answer fault = (task, refl, wrote_cut command task old new s books answer.0 answer.1 answer.2 answer.4 fault)

abbrev pub Memory : Result Task Status → Option (List ℕ) → Option (List ℕ) → List RoundBook → Type 0
Memory r old new books = ((new ≡ old) × (books ≡ [])) ⊎ ((task : Task) × (r ≡ Ok task) × AppendsPrefix old new (task.text books))

wrote_memory : (command : ProgramCommand) (task : Task) (old new : Option (List ℕ)) (s : Status) (books : List RoundBook) (w : Wrote) → s ≡ status_of task.end w → IsCompleted task.end → IsWrittenOf command task old new books w → s ≡ status.NoMemory → Memory (Ok task) old new books
wrote_memory command task old new s books wrote.All same done written memory = absurd (completed_memory task.end done (sym same ∙ memory))
wrote_memory command task old new s books wrote.Prefix same done written memory = let both : status.WriteFault ≡ status.NoMemory = sym same ∙ memory in cc
wrote_memory command task old new s books wrote.NoMemory same done written memory = inr (task, refl, written)

pub memory_of : (command : ProgramCommand) (r : Result Task Status) (old new : Option (List ℕ)) (s : Status) (books : List RoundBook) → IsAnswer command r old new s books → s ≡ status.NoMemory → Memory r old new books
memory_of command (Err refused) old new s books answer memory = inl (answer.2, answer.3)
memory_of command (Ok task) old new s books answer memory = wrote_memory command task old new s books answer.0 answer.1 answer.2 answer.4 memory

-- the same, with what was given
pub given_memory : (asked : Result ProgramCommand ℕ) (left_before left : Option (List ℕ)) (command : ProgramCommand) (input : List ℕ) (old new : Option (List ℕ)) (books : List RoundBook) → IsGiven asked left_before left command input → Memory (task_of command input) old new books → ((new ≡ old) × (books ≡ [])) ⊎ ((c : ProgramCommand) × (i : List ℕ) × (task : Task) × IsGiven asked left_before left c i × (task_of c i ≡ Ok task) × AppendsPrefix old new (task.text books))
given_memory asked left_before left command input old new books given (inl nothing) = inl nothing
given_memory asked left_before left command input old new books given (inr some) = inr (command, input, some.0, given, some.1, some.2)

wrote_stopped : (s end : Status) (w : Wrote) → IsCompleted end → s ≡ status_of end w → (IsCompleted s → ⊥) → s ≢ status.WriteFault → s ≢ status.NoMemory → ⊥
wrote_stopped s end wrote.All done same other calm room = other (subst IsCompleted (sym same) done)
wrote_stopped s end wrote.Prefix done same other calm room = calm same
wrote_stopped s end wrote.NoMemory done same other calm room = room same

pub nothing_of : (command : ProgramCommand) (r : Result Task Status) (old new : Option (List ℕ)) (s : Status) (books : List RoundBook) → IsAnswer command r old new s books → (IsCompleted s → ⊥) → s ≢ status.WriteFault → s ≢ status.NoMemory → (new ≡ old) × (books ≡ [])
nothing_of command (Err refused) old new s books answer other calm room = (answer.2, answer.3)
nothing_of command (Ok task) old new s books answer other calm room = absurd (wrote_stopped s task.end answer.0 answer.2 answer.1 other calm room)

-- BEFORE A TASK

-- a refused input, or want of memory, before anything was played
no_memory_at_first : (command : ProgramCommand) (r : Result Task Status) (old new : Option (List ℕ)) (books : List RoundBook) → IsReady r → ((task : Task) → IsWrittenOf command task old new [] wrote.NoMemory) → new ≡ old → books ≡ [] → IsAnswer command r old new status.NoMemory books
no_memory_at_first command (Err refused) old new books ready none same empty = (ready, inr refl, same, empty)
no_memory_at_first command (Ok task) old new books ready none same empty =
    (wrote.NoMemory, refl, ready.0, subst (λ (l : List RoundBook). AreBooksOf task l) (sym empty) ready.1, subst (λ (l : List RoundBook). IsWrittenOf command task old new l wrote.NoMemory) (sym empty) (none task))

found_refused : (command : ProgramCommand) (r : Result Task Status) (old new : Option (List ℕ)) (refused : Status) (books : List RoundBook) → r ≡ Err refused → IsRefusal refused → new ≡ old → books ≡ [] → IsAnswer command r old new refused books
found_refused command r old new refused books found is same empty =
    subst (λ (x : Result Task Status). IsAnswer command x old new refused books) (sym found) (is, inl refl, same, empty)

pub refused_answer : (command : ProgramCommand) (r : Result Task Status) (old new : Option (List ℕ)) (s : Status) (books : List RoundBook) → IsRefusedBy r s → IsReady r → ((task : Task) → IsWrittenOf command task old new [] wrote.NoMemory) → new ≡ old → books ≡ [] → IsAnswer command r old new s books
refused_answer command r old new status.NoMemory books found ready none same empty = no_memory_at_first command r old new books ready none same empty
refused_answer command r old new (status.ScriptRefused line why) books found ready none same empty = found_refused command r old new (status.ScriptRefused line why) books found tt same empty
refused_answer command r old new (status.CaptureRefused at why) books found ready none same empty = found_refused command r old new (status.CaptureRefused at why) books found tt same empty
refused_answer command r old new status.Finished books found ready none same empty = absurd found
refused_answer command r old new (status.Illegal verdict) books found ready none same empty = absurd found
refused_answer command r old new (status.WordsRefused at) books found ready none same empty = absurd found
refused_answer command r old new status.ReadFault books found ready none same empty = absurd found
refused_answer command r old new status.WriteFault books found ready none same empty = absurd found
refused_answer command r old new status.ScriptTooLong books found ready none same empty = absurd found

-- THE BYTES OF THE SOURCE

-- a source that tells its bytes and is at its end has given all of them
all_read : (left : Option (List ℕ)) (bytes given : List ℕ) → Consumes (Some bytes) left given → IsAtEnd left → given ≡ bytes
all_read None bytes given took end = absurd took
all_read (Some rest) bytes given took end = sym (took ∙ ap (λ (l : List ℕ). given ++ l) end ∙ append-nil given)

-- no more than all are read
not_longer : (left : Option (List ℕ)) (bytes given : List ℕ) → Consumes (Some bytes) left given → length given ≤ length bytes
not_longer None bytes given took = absurd took
not_longer (Some rest) bytes given took = omega (arith, ap length took, length-append given rest)

given_all : (old new : Option (List ℕ)) (given bytes : List ℕ) → Consumes old new given → IsAtEnd new → old ≡ Some bytes → given ≡ bytes
given_all old new given bytes took end told =
    let P : Option (List ℕ) → Type 0 = λ o. Consumes o new given in
    all_read new bytes given (subst P told took) end

command_is : (asked : Result ProgramCommand ℕ) (command given : ProgramCommand) → asked ≡ Ok given → asked ≡ Ok command → given ≡ command
command_is asked command given one two = let both : ◌≡◌ {A = Result ProgramCommand ℕ} (Ok given) (Ok command) = sym one ∙ two in cc

-- the task is that of the bytes that the source told, also where they weren't read
task_told : (command : ProgramCommand) (old new : Option (List ℕ)) (input bytes : List ℕ) → IsReadFor (reads_input command) old new input → old ≡ Some bytes → task_of command bytes ≡ task_of command input
task_told program.Serial old new input bytes read told = ap (task_of program.Serial) (sym (given_all old new input bytes read.0 read.1 told))
task_told (program.Run workers buckets) old new input bytes read told = ap (task_of (program.Run workers buckets)) (sym (given_all old new input bytes read.0 read.1 told))
task_told program.Check old new input bytes read told = ap (task_of program.Check) (sym (given_all old new input bytes read.0 read.1 told))
task_told (program.Demo clients) old new input bytes read told = refl
task_told (program.Capture net bits step) old new input bytes read told = ap (task_of (program.Capture net bits step)) (sym (given_all old new input bytes read.0 read.1 told))
task_told (program.Pair counts) old new input bytes read told = ap (task_of (program.Pair counts)) (sym (given_all old new input bytes read.0 read.1 told))

-- the answer for the command that the words ask for and the bytes that the source told
answer_told : (asked : Result ProgramCommand ℕ) (left_before left old new : Option (List ℕ)) (given command : ProgramCommand) (input bytes : List ℕ) (r : Result Task Status) (s : Status) (books : List RoundBook) → IsGiven asked left_before left given input → asked ≡ Ok command → left_before ≡ Some bytes → task_of command bytes ≡ r → IsAnswer given (task_of given input) old new s books → IsAnswer command r old new s books
answer_told asked left_before left old new given command input bytes r s books is good told found answer =
    let same : given ≡ command = command_is asked command given is.asked_for good in
    let here : task_of given input ≡ r = sym (task_told given left_before left input bytes is.read told) ∙ ap (λ (c : ProgramCommand). task_of c bytes) same ∙ found in
    let P : ProgramCommand → Type 0 = λ c. IsAnswer c r old new s books in
    let R : Result Task Status → Type 0 = λ x. IsAnswer given x old new s books in
    subst P same (subst R here answer)

pub complete_after : (asked : Result ProgramCommand ℕ) (left_before left old new : Option (List ℕ)) (given command : ProgramCommand) (input bytes : List ℕ) (task : Task) (s : Status) (books : List RoundBook) → IsGiven asked left_before left given input → asked ≡ Ok command → left_before ≡ Some bytes → task_of command bytes ≡ Ok task → IsAnswer given (task_of given input) old new s books → s ≢ status.WriteFault → (s ≡ task.end) ⊎ (s ≡ status.NoMemory)
complete_after asked left_before left old new given command input bytes task s books is good told found answer calm =
    accepted_ends command task old new s books (answer_told asked left_before left old new given command input bytes (Ok task) s books is good told found answer) calm

pub refused_after : (asked : Result ProgramCommand ℕ) (left_before left old new : Option (List ℕ)) (given command : ProgramCommand) (input bytes : List ℕ) (refused : Status) (s : Status) (books : List RoundBook) → IsGiven asked left_before left given input → asked ≡ Ok command → left_before ≡ Some bytes → task_of command bytes ≡ Err refused → IsAnswer given (task_of given input) old new s books → (s ≡ refused) ⊎ (s ≡ status.NoMemory)
refused_after asked left_before left old new given command input bytes refused s books is good told found answer =
    refused_ends command refused old new s books (answer_told asked left_before left old new given command input bytes (Err refused) s books is good told found answer)

too_much : (limit : ℕ) (old new : Option (List ℕ)) (bytes given : List ℕ) → length given ≡ limit + 1 → Consumes old new given → old ≡ Some bytes → length bytes ≤ limit → ⊥
too_much limit old new bytes given size took told short =
    let P : Option (List ℕ) → Type 0 = λ o. Consumes o new given in
    let less : length given ≤ length bytes = not_longer new bytes given (subst P told took) in
    omega (arith, size, less, short)

-- with a short input and no fault, the input is left unread for want of memory alone
pub unread_is_memory : (limit : ℕ) (s : Status) (old new : Option (List ℕ)) (bytes : List ℕ) (before now : ℕ) → IsUnread s → (s ≡ status.ReadFault → Rose before now) → (s ≡ status.ScriptTooLong → (given : List ℕ) × (length given ≡ limit + 1) × Consumes old new given) → old ≡ Some bytes → length bytes ≤ limit → (Rose before now → ⊥) → s ≡ status.NoMemory
unread_is_memory limit status.NoMemory old new bytes before now is fault long told short calm = refl
unread_is_memory limit status.ReadFault old new bytes before now is fault long told short calm = absurd (calm (fault refl))
unread_is_memory limit status.ScriptTooLong old new bytes before now is fault long told short calm =
    let given = long refl in absurd (too_much limit old new bytes given.0 given.1 given.2 told short)
unread_is_memory limit status.Finished old new bytes before now is fault long told short calm = absurd is
unread_is_memory limit status.WriteFault old new bytes before now is fault long told short calm = absurd is
unread_is_memory limit (status.ScriptRefused line why) old new bytes before now is fault long told short calm = absurd is
unread_is_memory limit (status.WordsRefused at) old new bytes before now is fault long told short calm = absurd is
unread_is_memory limit (status.Illegal verdict) old new bytes before now is fault long told short calm = absurd is
unread_is_memory limit (status.CaptureRefused at why) old new bytes before now is fault long told short calm = absurd is

-- an unread input is neither completed, refused, nor stopped in writing
pub unread_completed : (s : Status) → IsUnread s → IsCompleted s → ⊥
unread_completed status.NoMemory is done = done
unread_completed status.ReadFault is done = done
unread_completed status.ScriptTooLong is done = done
unread_completed status.Finished is done = is
unread_completed status.WriteFault is done = is
unread_completed (status.ScriptRefused line why) is done = is
unread_completed (status.WordsRefused at) is done = is
unread_completed (status.Illegal verdict) is done = is
unread_completed (status.CaptureRefused at why) is done = is

pub unread_refusal : (s : Status) → IsUnread s → IsRefusal s → ⊥
unread_refusal status.NoMemory is refused = refused
unread_refusal status.ReadFault is refused = refused
unread_refusal status.ScriptTooLong is refused = refused
unread_refusal status.Finished is refused = is
unread_refusal status.WriteFault is refused = is
unread_refusal (status.ScriptRefused line why) is refused = is
unread_refusal (status.WordsRefused at) is refused = is
unread_refusal (status.Illegal verdict) is refused = is
unread_refusal (status.CaptureRefused at why) is refused = is
