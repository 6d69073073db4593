-- The words of the program, its own name left out: the command that they ask for, or the first word that is refused (this project's profile).
use Rattle.std.specs.Prelude.{ℕ, ◌-◌, ◌&&◌, List, [], ◌∷◌, length, map, Option, Some, None, Result, Ok, Err, if◌then◌else◌, nat_le, slice_get, codes, bytes_eq, ok_or}
use Rattle.lvs_types.specs.Limits.{max_workers, max_buckets, max_clients, max_capture_step, max_counts}
use Rattle.lvs_types.specs.declared.program.ProgramCommand.{ProgramCommand}
use Rattle.lvs_types.specs.declared.program.ProgramCommand.TheVariants as program
use Rattle.lvs_model.specs.Decimals.{is_number, number_of, number_between, addr_of}
use Rattle.lvs_model.specs.Refusals.{◌>>=◌}

-- what the word of that number spells; it is refused where it isn't there, and where it spells nothing of the kind
abbrev pub spelt : {A : Type 0} → (List ℕ → Option A) → ℕ → Option (List ℕ) → Result A ℕ
spelt reading at None = Err at
spelt reading at (Some word) = ok_or (reading word) at

abbrev pub word_at : {A : Type 0} → (List ℕ → Option A) → ℕ → List (List ℕ) → Result A ℕ
word_at reading at words = spelt reading at (slice_get words at)

-- the command, where there are so many words; the first word more is refused
abbrev pub whole_at : ℕ → List (List ℕ) → ProgramCommand → Result ProgramCommand ℕ
whole_at count words command = if nat_le (length words) count then Ok command else Err count

-- 1 to 64 digits, kept as their numbers 0 to 9 (48 is the digit 0)
abbrev pub counts_of : List ℕ → Option (List ℕ)
counts_of word = if is_number word && nat_le (length word) max_counts then Some (map (λ (digit : ℕ). digit - 48) word) else None

-- WORKERS BUCKETS
abbrev pub run_of : List (List ℕ) → Result ProgramCommand ℕ
run_of words = do
  workers ← word_at (number_between 1 max_workers) 1 words
  buckets ← word_at (number_between 1 max_buckets) 2 words
  whole_at 3 words (program.Run workers buckets)

-- N
abbrev pub demo_of : List (List ℕ) → Result ProgramCommand ℕ
demo_of words = do
  clients ← word_at (number_between 1 max_clients) 1 words
  whole_at 2 words (program.Demo clients)

-- NET BITS STEP
abbrev pub capture_of : List (List ℕ) → Result ProgramCommand ℕ
capture_of words = do
  net ← word_at addr_of 1 words
  bits ← word_at (number_of 10 32) 2 words
  step ← word_at (number_between 1 max_capture_step) 3 words
  whole_at 4 words (program.Capture net bits step)

-- COUNTS
abbrev pub pair_of : List (List ℕ) → Result ProgramCommand ℕ
pair_of words = do
  counts ← word_at counts_of 1 words
  whole_at 2 words (program.Pair counts)

-- by the first word
abbrev pub command_named : List ℕ → List (List ℕ) → Result ProgramCommand ℕ
command_named name words =
    if bytes_eq name (codes "serial") then whole_at 1 words program.Serial
    else if bytes_eq name (codes "run") then run_of words
    else if bytes_eq name (codes "check") then whole_at 1 words program.Check
    else if bytes_eq name (codes "demo") then demo_of words
    else if bytes_eq name (codes "capture") then capture_of words
    else if bytes_eq name (codes "pair") then pair_of words
    else Err 0

-- what the words ask for, or the number, from 0, of the first refused word; a word that is missing has the number of words
abbrev pub command_of : List (List ℕ) → Result ProgramCommand ℕ
command_of [] = Err 0
command_of (name ∷ more) = command_named name (name ∷ more)
