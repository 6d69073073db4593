-- One more round of what is written.
use Rattle.std.proofs.Common.{◌≡◌, ℕ, suc, ◌+◌, ◌≤◌, ◌<◌, List, [], ◌∷◌, ◌++◌, length, take, Option, Some, None, refl, sym, ◌∙◌, ap, subst, append_assoc, append-nil, length-append, arith}
use Rattle.std.specs.Prelude.{flat_map}
use Rattle.std.proofs.Math.Seq.{take-length}
use Rattle.std.proofs.lemmas.List.{take-append-le}
use Rattle.std.proofs.lemmas.Grind.{flat_map-append}
use Rattle.std.specs.Io.KnownBytes.{Appends}
use Rattle.lvs_outside.specs.Faults.{AppendsPrefix, AppendsProperPrefix}
use Rattle.lvs_outside.proofs.Known.{appends_more}
use Rattle.lvs_types.specs.declared.book.RoundBook.{RoundBook}
use Rattle.lvs_model.specs.Captured.{frames_of_book, sent_frames, sent_capture}
use Rattle.lvs_model.specs.CaptureFiles.{record_bytes, header_bytes}
use Rattle.lvs_model.specs.Report.{round_text, books_text}
use Rattle.lvs_run.specs.declared.output.Output.{Output}
use Rattle.lvs_run.specs.declared.output.Output.TheVariants as output
use Rattle.lvs_run.specs.declared.writing.Wrote.{Wrote}
use Rattle.lvs_run.specs.declared.writing.Wrote.TheVariants as wrote
use Rattle.lvs_run.specs.Written.{written_of, all_written_of, AppendsAllButLast, IsCutInLast, AreWritten, IsSent}

le_self : (n : ℕ) → n ≤ n
le_self n = omega arith

pub books_push : (kind : Output) (books : List RoundBook) (book : RoundBook) → all_written_of kind (books ++ book ∷ []) ≡ all_written_of kind books ++ written_of kind book
books_push kind [] book = append-nil (written_of kind book)
books_push kind (b ∷ books) book = ap (λ (t : List ℕ). written_of kind b ++ t) (books_push kind books book) ∙ sym (append_assoc (written_of kind b) (all_written_of kind books) (written_of kind book))

-- the whole text of one more book
pub appends_book : (kind : Output) (old mid new : Option (List ℕ)) (books : List RoundBook) (book : RoundBook) → Appends old mid (all_written_of kind books) → Appends mid new (written_of kind book) → Appends old new (all_written_of kind (books ++ book ∷ []))
appends_book kind old mid new books book before now = rw (books_push kind books book) (appends_more old mid new (all_written_of kind books) (written_of kind book) before now)

-- a prefix of the text of one more book
pub all_but_last : (kind : Output) (old mid new : Option (List ℕ)) (books : List RoundBook) (book : RoundBook) → Appends old mid (all_written_of kind books) → AppendsProperPrefix mid new (written_of kind book) → IsCutInLast kind old new (books ++ book ∷ [])
all_but_last kind old mid new books book before now =
    (books, book, now.0, refl, now.1, appends_more old mid new (all_written_of kind books) (take now.0 (written_of kind book)) before now.2)

pub part_whole : (old new : Option (List ℕ)) (text : List ℕ) → Appends old new text → AppendsPrefix old new text
part_whole old new text all =
    let here : take (length text) text ≡ text = take-length text in
    (length text, omega arith, subst (λ (t : List ℕ). Appends old new t) (sym here) all)

-- nothing of one more book
pub part_without_last : (kind : Output) (old mid new : Option (List ℕ)) (books : List RoundBook) (book : RoundBook) → Appends old mid (all_written_of kind books) → new ≡ mid → AppendsPrefix old new (all_written_of kind (books ++ book ∷ []))
part_without_last kind old mid new books book before same =
    let text : List ℕ = all_written_of kind books in
    let here : take (length text) (all_written_of kind (books ++ book ∷ [])) ≡ text =
    ap (λ (t : List ℕ). take (length text) t) (books_push kind books book) ∙ take-append-le (length text) text (written_of kind book) (le_self (length text)) ∙ take-length text in
    let longer : length (all_written_of kind (books ++ book ∷ [])) ≡ length text + length (written_of kind book) =
    ap (λ (t : List ℕ). length t) (books_push kind books book) ∙ length-append text (written_of kind book) in
    (length text, omega (arith, longer), subst (λ (t : List ℕ). Appends old new t) (sym here) (subst (λ (o : Option (List ℕ)). Appends old o text) (sym same) before))

-- WHAT IS DUE OF A TASK

pub reports_are : (books : List RoundBook) → all_written_of output.Report books ≡ books_text books
reports_are [] = refl
reports_are (book ∷ books) = ap (λ (t : List ℕ). round_text book ++ t) (reports_are books)

frames_are : (books : List RoundBook) → all_written_of output.Frames books ≡ flat_map record_bytes (sent_frames books)
frames_are [] = refl
frames_are (book ∷ books) =
    ap (λ (t : List ℕ). flat_map record_bytes (frames_of_book book) ++ t) (frames_are books)
    ∙ sym (flat_map-append record_bytes (frames_of_book book) (sent_frames books))

pub capture_is : (books : List RoundBook) → header_bytes ++ all_written_of output.Frames books ≡ sent_capture books
capture_is books = ap (λ (t : List ℕ). header_bytes ++ t) (frames_are books)

-- known bytes that didn't grow
pub nothing_appended : (old new : Option (List ℕ)) (text : List ℕ) → new ≡ old → AppendsPrefix old new text
nothing_appended None new text same = (0, omega arith, tt)
nothing_appended (Some xs) new text same =
    (0, omega arith, subst (λ (o : Option (List ℕ)). Appends (Some xs) o []) (sym same) (sym (append-nil xs)))

take_behind : (front text : List ℕ) (n : ℕ) → take (length front + n) (front ++ text) ≡ front ++ take n text
take_behind [] text n = let none : 0 + n ≡ n = omega arith in rw none refl
take_behind (byte ∷ front) text n =
    let one : length (byte ∷ front) + n ≡ suc (length front + n) = omega arith in
    rw one (ap (λ (l : List ℕ). byte ∷ l) (take_behind front text n))

-- a prefix behind a text that was written
pub prefix_behind : (old mid new : Option (List ℕ)) (front text : List ℕ) → Appends old mid front → AppendsPrefix mid new text → AppendsPrefix old new (front ++ text)
prefix_behind old mid new front text before now =
    (length front + now.0, omega (arith, now.1, length-append front text), subst (λ (t : List ℕ). Appends old new t) (sym (take_behind front text now.0)) (appends_more old mid new front (take now.0 text) before now.2))

pub proper_prefix_behind : (old mid new : Option (List ℕ)) (front text : List ℕ) → Appends old mid front → AppendsProperPrefix mid new text → AppendsProperPrefix old new (front ++ text)
proper_prefix_behind old mid new front text before now =
    (length front + now.0, omega (arith, now.1, length-append front text), subst (λ (t : List ℕ). Appends old new t) (sym (take_behind front text now.0)) (appends_more old mid new front (take now.0 text) before now.2))

-- what was cut in the last round is a prefix of all
pub cut_is_prefix : (kind : Output) (old new : Option (List ℕ)) (books : List RoundBook) → IsCutInLast kind old new books → AppendsProperPrefix old new (all_written_of kind books)
cut_is_prefix kind old new books cut =
    let front : List RoundBook = cut.0 in
    let last : RoundBook = cut.1 in
    let n : ℕ = cut.2 in
    let whole : all_written_of kind books ≡ all_written_of kind front ++ written_of kind last = ap (all_written_of kind) cut.3 ∙ books_push kind front last in
    let short : n < length (written_of kind last) = cut.4 in
    subst (λ (t : List ℕ). AppendsProperPrefix old new t) (sym whole)
    (length (all_written_of kind front) + n, omega (arith, short, length-append (all_written_of kind front) (written_of kind last)), subst (λ (t : List ℕ). Appends old new t) (sym (take_behind (all_written_of kind front) (written_of kind last) n)) cut.5)

-- of reports
pub report_is_cut : (old new : Option (List ℕ)) (books : List RoundBook) → IsCutInLast output.Report old new books → AppendsAllButLast old new books
report_is_cut old new books cut =
    (cut.0, cut.1, cut.2, cut.3, cut.4, subst (λ (t : List ℕ). Appends old new (t ++ take cut.2 (round_text cut.1))) (reports_are cut.0) cut.5)

-- A CAPTURE FILE

-- rounds whose records were written behind the header
pub sent_behind : (old mid new : Option (List ℕ)) (books : List RoundBook) (w : Wrote) → Appends old mid header_bytes → AreWritten output.Frames mid new books w → IsSent old new books w
sent_behind old mid new books wrote.All before now =
    subst (λ (t : List ℕ). Appends old new t) (capture_is books) (appends_more old mid new header_bytes (all_written_of output.Frames books) before now)
sent_behind old mid new books wrote.Prefix before now =
    subst (λ (t : List ℕ). AppendsProperPrefix old new t) (capture_is books) (proper_prefix_behind old mid new header_bytes (all_written_of output.Frames books) before (cut_is_prefix output.Frames mid new books now))
sent_behind old mid new books wrote.NoMemory before now =
    subst (λ (t : List ℕ). AppendsPrefix old new t) (capture_is books) (prefix_behind old mid new header_bytes (all_written_of output.Frames books) before now)

-- a header that wasn't written whole
pub header_cut : (old new : Option (List ℕ)) (books : List RoundBook) → books ≡ [] → AppendsProperPrefix old new header_bytes → AppendsProperPrefix old new (sent_capture books)
header_cut old new books none cut =
    let whole : header_bytes ≡ sent_capture books = sym (append-nil header_bytes) ∙ ap sent_capture (sym none) in
    subst (λ (t : List ℕ). AppendsProperPrefix old new t) whole cut
