-- The words of the command line that the program acts on so far, its own name left out (this project's profile).
use Rattle.std.specs.Prelude.{ℕ, List, [], ◌∷◌, Result, Err, ◌≤◌, ◌<◌, if◌then◌else◌, codes, bytes_eq}
use Rattle.lvs_types.specs.declared.program.ProgramCommand.{ProgramCommand}
use Rattle.lvs_types.specs.declared.program.ProgramCommand.TheVariants as program
use Rattle.lvs_types.specs.Limits.{max_clients}
use Rattle.lvs_model.specs.ProgramWords.{whole_at, capture_of, run_of, demo_of}
use Rattle.lvs_run.specs.Crews.{IsCrew}

-- what one thread does, by the first word; the name of another command is refused as any other word is
abbrev pub asked_named : List ℕ → List (List ℕ) → Result ProgramCommand ℕ
asked_named name words =
    if bytes_eq name (codes "serial") then whole_at 1 words program.Serial
    else if bytes_eq name (codes "check") then whole_at 1 words program.Check
    else if bytes_eq name (codes "capture") then capture_of words
    else Err 0

-- what the words ask one thread for, or the number, from 0, of the first refused word
abbrev pub asked_of : List (List ℕ) → Result ProgramCommand ℕ
asked_of [] = Err 0
asked_of (name ∷ more) = asked_named name (name ∷ more)

-- the command is one of these, with its numbers in their limits
abbrev pub IsAsked : ProgramCommand → Type 0
IsAsked program.Serial = Unit {0}
IsAsked program.Check = Unit {0}
IsAsked (program.Capture net bits step) = (bits ≤ 32) × (0 < step)
IsAsked other = ⊥

-- what many threads do too, by the first word
abbrev pub called_named : List ℕ → List (List ℕ) → Result ProgramCommand ℕ
called_named name words =
    if bytes_eq name (codes "run") then run_of words
    else if bytes_eq name (codes "demo") then demo_of words
    else asked_named name words

-- what the words ask for, or the number, from 0, of the first refused word
abbrev pub called_of : List (List ℕ) → Result ProgramCommand ℕ
called_of [] = Err 0
called_of (name ∷ more) = called_named name (name ∷ more)

-- the command is one of these, with its numbers in their limits
abbrev pub IsCalled : ProgramCommand → Type 0
IsCalled (program.Run workers buckets) = IsCrew workers buckets
IsCalled (program.Demo clients) = (1 ≤ clients) × (clients ≤ max_clients)
IsCalled other = IsAsked other
