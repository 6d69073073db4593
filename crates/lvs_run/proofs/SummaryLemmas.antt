-- A summary behind rounds of which nothing is written.
use Rattle.std.proofs.Common.{◌≡◌, ◌≢◌, ℕ, ◌<◌, ◌++◌, List, [], ◌∷◌, Option, length, take, refl, sym, ◌∙◌, ap, subst, arith}
use Rattle.std.specs.Io.KnownBytes.{Appends}
use Rattle.lvs_outside.specs.Faults.{Rose, AppendsPrefix, AppendsProperPrefix}
use Rattle.lvs_types.specs.declared.book.RoundBook.{RoundBook}
use Rattle.lvs_run.specs.declared.output.Output.TheVariants as output
use Rattle.lvs_run.specs.declared.writing.Wrote.{Wrote}
use Rattle.lvs_run.specs.declared.writing.Wrote.TheVariants as wrote
use Rattle.lvs_run.specs.Written.{all_written_of, IsCutInLast, AreWritten, IsWrote, IsWrittenOut, HasSinkCause}
use Rattle.lvs_run.proofs.Books.{nothing_appended, part_whole, prefix_behind, proper_prefix_behind}
use Rattle.lvs_outside.proofs.Known.{appends_more}

nothing_written : (books : List RoundBook) → all_written_of output.Nothing books ≡ []
nothing_written [] = refl
nothing_written (book ∷ books) = nothing_written books

-- nothing can be cut
never_cut : (old new : Option (List ℕ)) (books : List RoundBook) → IsCutInLast output.Nothing old new books → ⊥
never_cut old new books cut = let short : cut.2 < 0 = cut.4 in absurd (omega (arith, short))

no_more : (old new : Option (List ℕ)) (text : List ℕ) → AppendsPrefix old new [] → AppendsPrefix old new text
no_more old new text part =
    let none : part.0 ≡ 0 = omega (arith, part.1) in
    (0, omega arith, subst (λ (n : ℕ). Appends old new (take n [])) none part.2)

-- rounds that were not all played
pub not_all : (old new : Option (List ℕ)) (books : List RoundBook) (text : List ℕ) (w : Wrote) → w ≢ wrote.All → AreWritten output.Nothing old new books w → IsWrittenOut old new text w
not_all old new books text wrote.All some written = absurd (some refl)
not_all old new books text wrote.Prefix some written = absurd (never_cut old new books written)
not_all old new books text wrote.NoMemory some written = no_more old new text (subst (λ (t : List ℕ). AppendsPrefix old new t) (nothing_written books) written)

-- a text behind rounds that were all played
behind_none : (old mid new : Option (List ℕ)) (text : List ℕ) (w : Wrote) → Appends old mid [] → IsWrote mid new text w → IsWrittenOut old new text w
behind_none old mid new text wrote.All before now = appends_more old mid new [] text before now
behind_none old mid new text wrote.Prefix before now = proper_prefix_behind old mid new [] text before now
behind_none old mid new text wrote.NoMemory before now = prefix_behind old mid new [] text before (nothing_appended mid new text now)

pub behind_all : (old mid new : Option (List ℕ)) (books : List RoundBook) (text : List ℕ) (before w : Wrote) → before ≡ wrote.All → AreWritten output.Nothing old mid books before → IsWrote mid new text w → IsWrittenOut old new text w
behind_all old mid new books text before w all written now =
    let P : Wrote → Type 0 = λ x. AreWritten output.Nothing old mid books x in
    behind_none old mid new text w (subst (λ (t : List ℕ). Appends old mid t) (nothing_written books) (subst P all written)) now

pub cause_behind : (first middle last : ℕ) (before w : Wrote) → before ≡ wrote.All → HasSinkCause first middle before → HasSinkCause middle last w → HasSinkCause first last w
cause_behind first middle last before w all kept now =
    let P : Wrote → Type 0 = λ x. HasSinkCause first middle x in
    let same : middle ≡ first = subst P all kept in
    subst (λ (n : ℕ). HasSinkCause n last w) same now
