-- What an answer says of the script that the input makes.
use Rattle.std.proofs.Common.{◌≡◌, ◌≢◌, ℕ, ◌+◌, ◌≤◌, ◌⊎◌, inl, inr, List, ◌++◌, Option, Some, None, Result, Ok, Err, length, refl, sym, ◌∙◌, ap, subst, append-nil, length-append, arith}
use Rattle.std.specs.Io.KnownBytes.{Consumes, IsAtEnd, Appends}
use Rattle.lvs_types.specs.declared.script.Script.{Script}
use Rattle.lvs_types.specs.declared.status.Status.{Status}
use Rattle.lvs_types.specs.declared.status.Status.TheVariants as status
use Rattle.lvs_outside.specs.Faults.{Rose, AppendsProperPrefix}
use Rattle.lvs_tidy.specs.ScriptTexts.{script_text}
use Rattle.lvs_tidy_run.specs.declared.words.Asked.{Asked}
use Rattle.lvs_tidy_run.specs.Answers.{IsWritten, IsAnswer}
use Rattle.lvs_tidy_run.specs.Made.{script_made, IsRefusal, IsUnread, IsRefusedBy}

-- STATUSES

-- a status that comes once the input was read
pub record IsLate (s : Status) : Type 0 where
  pub words : (at : ℕ) → s ≢ status.WordsRefused at
  pub read_fault : s ≢ status.ReadFault
  pub too_long : s ≢ status.ScriptTooLong

late_refusal : (s : Status) → IsRefusal s → IsLate s
late_refusal (status.ScriptRefused line why) is = record { words = λ at e. cc; read_fault = λ e. cc; too_long = λ e. cc }
late_refusal (status.CaptureRefused at why) is = record { words = λ at e. cc; read_fault = λ e. cc; too_long = λ e. cc }
late_refusal status.Finished is = absurd is
late_refusal (status.Illegal verdict) is = absurd is
late_refusal (status.WordsRefused at) is = absurd is
late_refusal status.ReadFault is = absurd is
late_refusal status.WriteFault is = absurd is
late_refusal status.NoMemory is = absurd is
late_refusal status.ScriptTooLong is = absurd is

late_written : (text : List ℕ) (old new : Option (List ℕ)) (s : Status) → IsWritten text old new s → IsLate s
late_written text old new status.Finished is = record { words = λ at e. cc; read_fault = λ e. cc; too_long = λ e. cc }
late_written text old new status.WriteFault is = record { words = λ at e. cc; read_fault = λ e. cc; too_long = λ e. cc }
late_written text old new status.NoMemory is = record { words = λ at e. cc; read_fault = λ e. cc; too_long = λ e. cc }
late_written text old new (status.ScriptRefused line why) is = absurd is
late_written text old new (status.CaptureRefused at why) is = absurd is
late_written text old new (status.Illegal verdict) is = absurd is
late_written text old new (status.WordsRefused at) is = absurd is
late_written text old new status.ReadFault is = absurd is
late_written text old new status.ScriptTooLong is = absurd is

late_memory : IsLate status.NoMemory
late_memory = record { words = λ at e. cc; read_fault = λ e. cc; too_long = λ e. cc }

late_along : (s t : Status) → s ≡ t → IsLate t → IsLate s
late_along s t same late = subst (λ (x : Status). IsLate x) (sym same) late

late_one : (s refused : Status) → IsRefusal refused → (s ≡ refused) ⊎ (s ≡ status.NoMemory) → IsLate s
late_one s refused is (inl same) = late_along s refused same (late_refusal refused is)
late_one s refused is (inr same) = late_along s status.NoMemory same late_memory

pub late : (r : Result Script Status) (old new : Option (List ℕ)) (s : Status) → IsAnswer r old new s → IsLate s
late (Err refused) old new s answer = late_one s refused answer.0 answer.1
late (Ok script) old new s answer = late_written (script_text script) old new s answer

-- no refusal is one of these
pub refusal_finished : (s : Status) → IsRefusal s → s ≡ status.Finished → ⊥
refusal_finished s is same = subst IsRefusal same is

pub refusal_fault : (s : Status) → IsRefusal s → s ≡ status.WriteFault → ⊥
refusal_fault s is same = subst IsRefusal same is

refusal_memory : (s : Status) → IsRefusal s → s ≡ status.NoMemory → ⊥
refusal_memory s is same = subst IsRefusal same is

-- a refused input, and a status that is neither its own nor want of memory
never : (s refused other : Status) → (s ≡ refused) ⊎ (s ≡ status.NoMemory) → s ≡ other → (refused ≡ other → ⊥) → other ≢ status.NoMemory → ⊥
never s refused other (inl same) is apart room = apart (sym same ∙ is)
never s refused other (inr same) is apart room = room (sym is ∙ same)

-- EACH STATUS

written_finished : (text : List ℕ) (old new : Option (List ℕ)) (s : Status) → IsWritten text old new s → s ≡ status.Finished → Appends old new text
written_finished text old new s is same = subst (λ (x : Status). IsWritten text old new x) same is

written_fault : (text : List ℕ) (old new : Option (List ℕ)) (s : Status) → IsWritten text old new s → s ≡ status.WriteFault → AppendsProperPrefix old new text
written_fault text old new s is same = subst (λ (x : Status). IsWritten text old new x) same is

pub finished_of : (r : Result Script Status) (old new : Option (List ℕ)) (s : Status) → IsAnswer r old new s → s ≡ status.Finished → (script : Script) × (r ≡ Ok script) × Appends old new (script_text script)
finished_of (Err refused) old new s answer is = absurd (never s refused status.Finished answer.1 is (refusal_finished refused answer.0) (λ e. cc))
finished_of (Ok script) old new s answer is = (script, refl, written_finished (script_text script) old new s answer is)

pub fault_of : (r : Result Script Status) (old new : Option (List ℕ)) (s : Status) → IsAnswer r old new s → s ≡ status.WriteFault → (script : Script) × (r ≡ Ok script) × AppendsProperPrefix old new (script_text script)
fault_of (Err refused) old new s answer is = absurd (never s refused status.WriteFault answer.1 is (refusal_fault refused answer.0) (λ e. cc))
fault_of (Ok script) old new s answer is = (script, refl, written_fault (script_text script) old new s answer is)

refused_is : (s refused : Status) → (s ≡ refused) ⊎ (s ≡ status.NoMemory) → IsRefusal s → ◌≡◌ {A = Result Script Status} (Err refused) (Err s)
refused_is s refused (inl same) is = ap (λ (t : Status). Err t) (sym same)
refused_is s refused (inr same) is = absurd (refusal_memory s is same)

written_refusal : (text : List ℕ) (old new : Option (List ℕ)) (s : Status) → IsWritten text old new s → IsRefusal s → ⊥
written_refusal text old new (status.ScriptRefused line why) written is = written
written_refusal text old new (status.CaptureRefused at why) written is = written
written_refusal text old new status.Finished written is = is
written_refusal text old new (status.Illegal verdict) written is = is
written_refusal text old new (status.WordsRefused at) written is = is
written_refusal text old new status.ReadFault written is = is
written_refusal text old new status.WriteFault written is = is
written_refusal text old new status.NoMemory written is = is
written_refusal text old new status.ScriptTooLong written is = is

pub refusal_of : (r : Result Script Status) (old new : Option (List ℕ)) (s : Status) → IsAnswer r old new s → IsRefusal s → r ≡ Err s
refusal_of (Err refused) old new s answer is = refused_is s refused answer.1 is
refusal_of (Ok script) old new s answer is = absurd (written_refusal (script_text script) old new s answer is)

written_nothing : (text : List ℕ) (old new : Option (List ℕ)) (s : Status) → IsWritten text old new s → s ≢ status.Finished → s ≢ status.WriteFault → new ≡ old
written_nothing text old new status.NoMemory is other calm = is
written_nothing text old new status.Finished is other calm = absurd (other refl)
written_nothing text old new status.WriteFault is other calm = absurd (calm refl)
written_nothing text old new (status.ScriptRefused line why) is other calm = absurd is
written_nothing text old new (status.CaptureRefused at why) is other calm = absurd is
written_nothing text old new (status.Illegal verdict) is other calm = absurd is
written_nothing text old new (status.WordsRefused at) is other calm = absurd is
written_nothing text old new status.ReadFault is other calm = absurd is
written_nothing text old new status.ScriptTooLong is other calm = absurd is

pub nothing_of : (r : Result Script Status) (old new : Option (List ℕ)) (s : Status) → IsAnswer r old new s → s ≢ status.Finished → s ≢ status.WriteFault → new ≡ old
nothing_of (Err refused) old new s answer other calm = answer.2
nothing_of (Ok script) old new s answer other calm = written_nothing (script_text script) old new s answer other calm

written_ends : (text : List ℕ) (old new : Option (List ℕ)) (s : Status) → IsWritten text old new s → s ≢ status.WriteFault → (s ≡ status.Finished) ⊎ (s ≡ status.NoMemory)
written_ends text old new status.Finished is calm = inl refl
written_ends text old new status.NoMemory is calm = inr refl
written_ends text old new status.WriteFault is calm = absurd (calm refl)
written_ends text old new (status.ScriptRefused line why) is calm = absurd is
written_ends text old new (status.CaptureRefused at why) is calm = absurd is
written_ends text old new (status.Illegal verdict) is calm = absurd is
written_ends text old new (status.WordsRefused at) is calm = absurd is
written_ends text old new status.ReadFault is calm = absurd is
written_ends text old new status.ScriptTooLong is calm = absurd is

-- THE ANSWER, FROM WHAT WAS FOUND

pub made_answer : (r : Result Script Status) (old new : Option (List ℕ)) (s : Status) (text : List ℕ) (script : Script) → r ≡ Ok script → text ≡ script_text script → IsWritten text old new s → IsAnswer r old new s
made_answer r old new s text script made same is =
    let P : List ℕ → Type 0 = λ t. IsWritten t old new s in
    let Q : Result Script Status → Type 0 = λ x. IsAnswer x old new s in
    subst Q (sym made) (subst P same is)

-- a refusal among the errors
abbrev pub IsReady : {A : Type 0} → Result A Status → Type 0
IsReady {A = A} (Ok x) = Unit {0}
IsReady {A = A} (Err refused) = IsRefusal refused

memory_answer : (r : Result Script Status) (old : Option (List ℕ)) → IsReady r → IsAnswer r old old status.NoMemory
memory_answer (Ok script) old ready = refl
memory_answer (Err refused) old ready = (ready, inr refl, refl)

found_answer : (r : Result Script Status) (old : Option (List ℕ)) (s : Status) → r ≡ Err s → IsRefusal s → IsAnswer r old old s
found_answer r old s found is = subst (λ (x : Result Script Status). IsAnswer x old old s) (sym found) (is, inl refl, refl)

pub refused_answer : (r : Result Script Status) (old : Option (List ℕ)) (s : Status) → IsReady r → IsRefusedBy r s → IsAnswer r old old s
refused_answer r old status.NoMemory ready found = memory_answer r old ready
refused_answer r old (status.ScriptRefused line why) ready found = found_answer r old (status.ScriptRefused line why) found tt
refused_answer r old (status.CaptureRefused at why) ready found = found_answer r old (status.CaptureRefused at why) found tt
refused_answer r old status.Finished ready found = absurd found
refused_answer r old (status.Illegal verdict) ready found = absurd found
refused_answer r old (status.WordsRefused at) ready found = absurd found
refused_answer r old status.ReadFault ready found = absurd found
refused_answer r old status.WriteFault ready found = absurd found
refused_answer r old status.ScriptTooLong ready found = absurd found

-- THE BYTES OF THE SOURCE

-- a source that tells its bytes and is at its end has given all of them
all_read : (left : Option (List ℕ)) (bytes given : List ℕ) → Consumes (Some bytes) left given → IsAtEnd left → given ≡ bytes
all_read None bytes given took end = absurd took
all_read (Some rest) bytes given took end = sym (took ∙ ap (λ (l : List ℕ). given ++ l) end ∙ append-nil given)

-- no more than all are read
not_longer : (left : Option (List ℕ)) (bytes given : List ℕ) → Consumes (Some bytes) left given → length given ≤ length bytes
not_longer None bytes given took = absurd took
not_longer (Some rest) bytes given took = omega (arith, ap length took, length-append given rest)

given_all : (old new : Option (List ℕ)) (given bytes : List ℕ) → Consumes old new given → IsAtEnd new → old ≡ Some bytes → given ≡ bytes
given_all old new given bytes took end told =
    let P : Option (List ℕ) → Type 0 = λ o. Consumes o new given in
    all_read new bytes given (subst P told took) end

asked_is : (words : Result Asked ℕ) (asked given : Asked) → words ≡ Ok given → words ≡ Ok asked → given ≡ asked
asked_is words asked given one two = let both : ◌≡◌ {A = Result Asked ℕ} (Ok given) (Ok asked) = sym one ∙ two in cc

-- the answer for what the words ask for and the bytes that the source told
answer_told : (written_old written_new : Option (List ℕ)) (given asked : Asked) (input bytes : List ℕ) (r : Result Script Status) (s : Status) → given ≡ asked → input ≡ bytes → script_made asked bytes ≡ r → IsAnswer (script_made given input) written_old written_new s → IsAnswer r written_old written_new s
answer_told written_old written_new given asked input bytes r s same all is answer =
    let P : Asked → Type 0 = λ a. IsAnswer (script_made a input) written_old written_new s in
    let Q : List ℕ → Type 0 = λ b. IsAnswer (script_made asked b) written_old written_new s in
    let R : Result Script Status → Type 0 = λ x. IsAnswer x written_old written_new s in
    subst R is (subst Q all (subst P same answer))

pub complete_after : (old new written_old written_new : Option (List ℕ)) (words : Result Asked ℕ) (given asked : Asked) (input bytes : List ℕ) (script : Script) (s : Status) → words ≡ Ok given → words ≡ Ok asked → Consumes old new input → IsAtEnd new → old ≡ Some bytes → script_made asked bytes ≡ Ok script → IsAnswer (script_made given input) written_old written_new s → s ≢ status.WriteFault → (s ≡ status.Finished) ⊎ (s ≡ status.NoMemory)
complete_after old new written_old written_new words given asked input bytes script s one two took end told is answer calm =
    written_ends (script_text script) written_old written_new s (answer_told written_old written_new given asked input bytes (Ok script) s (asked_is words asked given one two) (given_all old new input bytes took end told) is answer) calm

pub refused_after : (old new written_old written_new : Option (List ℕ)) (words : Result Asked ℕ) (given asked : Asked) (input bytes : List ℕ) (refused s : Status) → words ≡ Ok given → words ≡ Ok asked → Consumes old new input → IsAtEnd new → old ≡ Some bytes → script_made asked bytes ≡ Err refused → IsAnswer (script_made given input) written_old written_new s → (s ≡ refused) ⊎ (s ≡ status.NoMemory)
refused_after old new written_old written_new words given asked input bytes refused s one two took end told is answer =
    (answer_told written_old written_new given asked input bytes (Err refused) s (asked_is words asked given one two) (given_all old new input bytes took end told) is answer).1

too_much : (limit : ℕ) (old new : Option (List ℕ)) (bytes given : List ℕ) → length given ≡ limit + 1 → Consumes old new given → old ≡ Some bytes → length bytes ≤ limit → ⊥
too_much limit old new bytes given size took told short =
    let P : Option (List ℕ) → Type 0 = λ o. Consumes o new given in
    let less : length given ≤ length bytes = not_longer new bytes given (subst P told took) in
    omega (arith, size, less, short)

-- with a short input and no fault, the input is left unread for want of memory alone
pub unread_is_memory : (limit : ℕ) (s : Status) (old new : Option (List ℕ)) (bytes : List ℕ) (before now : ℕ) → IsUnread s → (s ≡ status.ReadFault → Rose before now) → (s ≡ status.ScriptTooLong → (given : List ℕ) × (length given ≡ limit + 1) × Consumes old new given) → old ≡ Some bytes → length bytes ≤ limit → (Rose before now → ⊥) → s ≡ status.NoMemory
unread_is_memory limit status.NoMemory old new bytes before now is fault long told short calm = refl
unread_is_memory limit status.ReadFault old new bytes before now is fault long told short calm = absurd (calm (fault refl))
unread_is_memory limit status.ScriptTooLong old new bytes before now is fault long told short calm =
    let given = long refl in absurd (too_much limit old new bytes given.0 given.1 given.2 told short)
unread_is_memory limit status.Finished old new bytes before now is fault long told short calm = absurd is
unread_is_memory limit status.WriteFault old new bytes before now is fault long told short calm = absurd is
unread_is_memory limit (status.ScriptRefused line why) old new bytes before now is fault long told short calm = absurd is
unread_is_memory limit (status.WordsRefused at) old new bytes before now is fault long told short calm = absurd is
unread_is_memory limit (status.Illegal verdict) old new bytes before now is fault long told short calm = absurd is
unread_is_memory limit (status.CaptureRefused at why) old new bytes before now is fault long told short calm = absurd is

-- an unread input is neither printed nor refused, nor did the call stop in writing
pub unread_finished : (s : Status) → IsUnread s → s ≡ status.Finished → ⊥
unread_finished s is same = subst IsUnread same is

pub unread_fault : (s : Status) → IsUnread s → s ≡ status.WriteFault → ⊥
unread_fault s is same = subst IsUnread same is

pub unread_words : (s : Status) (at : ℕ) → IsUnread s → s ≡ status.WordsRefused at → ⊥
unread_words s at is same = subst IsUnread same is

pub unread_refusal : (s : Status) → IsUnread s → IsRefusal s → ⊥
unread_refusal status.NoMemory is refused = refused
unread_refusal status.ReadFault is refused = refused
unread_refusal status.ScriptTooLong is refused = refused
unread_refusal status.Finished is refused = is
unread_refusal status.WriteFault is refused = is
unread_refusal (status.ScriptRefused line why) is refused = is
unread_refusal (status.WordsRefused at) is refused = is
unread_refusal (status.Illegal verdict) is refused = is
unread_refusal (status.CaptureRefused at why) is refused = is

pub error_is : {A : Type 0} (s t : Status) → ◌≡◌ {A = Result A Status} (Err s) (Err t) → s ≡ t
error_is s t e = cc
