-- What is written of the books of rounds.
use Rattle.std.specs.Prelude.{◌≡◌, ℕ, ◌<◌, List, [], ◌∷◌, ◌++◌, length, take, flat_map, Option, Some, None}
use Rattle.std.specs.List.{filter_map}
use Rattle.std.specs.Io.KnownBytes.{Appends}
use Rattle.lvs_outside.specs.Faults.{Rose, AppendsPrefix, AppendsProperPrefix}
use Rattle.lvs_types.specs.declared.book.Noted.{Noted}
use Rattle.lvs_types.specs.declared.book.RoundBook.{RoundBook}
use Rattle.lvs_types.specs.declared.capture.Frame.{Frame}
use Rattle.lvs_model.specs.Captured.{frame_of_reply, frames_of_book, sent_capture}
use Rattle.lvs_model.specs.CaptureFiles.{record_bytes}
use Rattle.lvs_model.specs.Report.{round_text, books_text}
use Rattle.lvs_run.specs.declared.output.Output.{Output}
use Rattle.lvs_run.specs.declared.output.Output.TheVariants as output
use Rattle.lvs_run.specs.declared.writing.Wrote.{Wrote}
use Rattle.lvs_run.specs.declared.writing.Wrote.TheVariants as wrote

-- what is written of a round
abbrev pub written_of : Output → RoundBook → List ℕ
written_of output.Report book = round_text book
written_of output.Frames book = flat_map record_bytes (frames_of_book book)
written_of output.Nothing book = []

-- and of rounds, in their order
abbrev pub all_written_of : Output → List RoundBook → List ℕ
all_written_of kind [] = []
all_written_of kind (book ∷ books) = written_of kind book ++ all_written_of kind books

-- the record of a frame, where there is one
abbrev pub record_of : Option Frame → List ℕ
record_of None = []
record_of (Some frame) = record_bytes frame

-- the records of the packets that acts sent in that second
abbrev pub records_of : ℕ → List Noted → List ℕ
records_of seconds acts = flat_map record_bytes (filter_map (λ (act : Noted). frame_of_reply seconds act.reply) acts)

-- known bytes grew by the whole text of every book but the last, and not by the whole text of the last
abbrev pub AppendsAllButLast : Option (List ℕ) → Option (List ℕ) → List RoundBook → Type 0
AppendsAllButLast old new books =
    (front : List RoundBook) × (last : RoundBook) × (n : ℕ) × (books ≡ front ++ last ∷ []) × (n < length (round_text last)) × Appends old new (books_text front ++ take n (round_text last))

-- the same of what is written of each
abbrev pub IsCutInLast : Output → Option (List ℕ) → Option (List ℕ) → List RoundBook → Type 0
IsCutInLast kind old new books =
    (front : List RoundBook) × (last : RoundBook) × (n : ℕ) × (books ≡ front ++ last ∷ []) × (n < length (written_of kind last)) × Appends old new (all_written_of kind front ++ take n (written_of kind last))

-- what became of a text: all of it was written, or a part of it where the sink failed, or nothing where there was no memory
abbrev pub IsWrote : Option (List ℕ) → Option (List ℕ) → List ℕ → Wrote → Type 0
IsWrote old new text wrote.All = Appends old new text
IsWrote old new text wrote.Prefix = AppendsProperPrefix old new text
IsWrote old new text wrote.NoMemory = new ≡ old

-- what became of the texts of rounds
abbrev pub AreWritten : Output → Option (List ℕ) → Option (List ℕ) → List RoundBook → Wrote → Type 0
AreWritten kind old new books wrote.All = Appends old new (all_written_of kind books)
AreWritten kind old new books wrote.Prefix = IsCutInLast kind old new books
AreWritten kind old new books wrote.NoMemory = AppendsPrefix old new (all_written_of kind books)

-- what became of a text that is due as a whole
abbrev pub IsWrittenOut : Option (List ℕ) → Option (List ℕ) → List ℕ → Wrote → Type 0
IsWrittenOut old new text wrote.All = Appends old new text
IsWrittenOut old new text wrote.Prefix = AppendsProperPrefix old new text
IsWrittenOut old new text wrote.NoMemory = AppendsPrefix old new text

-- what became of the capture file of rounds
abbrev pub IsSent : Option (List ℕ) → Option (List ℕ) → List RoundBook → Wrote → Type 0
IsSent old new books w = IsWrittenOut old new (sent_capture books) w

-- the sink's count rose where it failed, and else is as before
abbrev pub HasSinkCause : ℕ → ℕ → Wrote → Type 0
HasSinkCause before now wrote.All = now ≡ before
HasSinkCause before now wrote.Prefix = Rose before now
HasSinkCause before now wrote.NoMemory = now ≡ before
