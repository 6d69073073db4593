-- The words of the program that prints a captured script, its own name left out (this project's profile).
use Rattle.std.specs.Prelude.{◌≡◌, ℕ, ◌≤◌, ◌<◌, List, length, Option, Result, Ok, Err, if◌then◌else◌, nat_le}
use Rattle.std.specs.Io.KnownBytes.{Consumes, IsAtEnd}
use Rattle.lvs_types.specs.Limits.{max_capture_step}
use Rattle.lvs_model.specs.Decimals.{number_of, number_between, addr_of}
use Rattle.lvs_model.specs.ProgramWords.{word_at}
use Rattle.lvs_model.specs.Refusals.{◌>>=◌}
use Rattle.lvs_tidy_run.specs.declared.words.Asked.{Asked}

-- what is asked for, where there are three words; the first word more is refused
abbrev pub asked_by : List (List ℕ) → Asked → Result Asked ℕ
asked_by words asked = if nat_le (length words) 3 then Ok asked else Err 3

-- NET BITS STEP, or the number, from 0, of the first refused word; a word that is missing has the number of words
abbrev pub asked_of : List (List ℕ) → Result Asked ℕ
asked_of words = do
  net ← word_at addr_of 0 words
  bits ← word_at (number_of 10 32) 1 words
  step ← word_at (number_between 1 max_capture_step) 2 words
  asked_by words (record { net = net; bits = bits; step = step })

-- a network of at most 32 bits, and rounds of a second or more
abbrev pub CanBeAsked : Asked → Type 0
CanBeAsked asked = (asked.bits ≤ 32) × (0 < asked.step)

-- the words ask for it, and the source gave these bytes and is at its end
pub record IsGiven (words : List (List ℕ)) (left_before left : Option (List ℕ)) (asked : Asked) (input : List ℕ) : Type 0 where
  pub asked_for : asked_of words ≡ Ok asked
  pub read : Consumes left_before left input
  pub end : IsAtEnd left
