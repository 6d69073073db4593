-- A line that is read as a report by itself.
use Rattle.std.proofs.Common.{◌≡◌, ℕ, List, [], ◌∷◌, Option, Some, None, Result, Ok, Err, refl, sym, ◌∙◌, ap, subst}
use Rattle.lvs_types.specs.declared.report.ReportLine.{ReportLine}
use Rattle.lvs_types.specs.declared.report.ReportLine.TheVariants as line
use Rattle.lvs_model.specs.Progress.{ReportText, Sizes, Progress}
use Rattle.lvs_model.specs.ReportReading.{line_of, lines_from, report_of}
use Rattle.lvs_model.specs.Checking.{read_judged}
use Rattle.lvs_check.specs.declared.line.LineKind.{LineKind}
use Rattle.lvs_check.specs.declared.line.LineKind.TheVariants as kind
use Rattle.lvs_check.specs.Kinds.{kind_in, kind_judged, kind_read}
use Rattle.lvs_types.specs.declared.report.Verdict.TheVariants as verdict
use Rattle.lvs_check.specs.declared.refusal.Stop.{Stop}
use Rattle.lvs_check.specs.declared.refusal.Stop.TheVariants as stop
use Rattle.lvs_check.specs.Judging.{Judges}
use Rattle.lvs_check.specs.Texts.{IsWhole}

-- what a report of one line is read as
abbrev line_alone : Option ReportLine → Result (List ReportLine) ℕ
line_alone None = Err 1
line_alone (Some (line.Head number moment workers buckets)) = Ok (line.Head number moment workers buckets ∷ [])
line_alone (Some (line.Act place actor number reply)) = Ok (line.Act place actor number reply ∷ [])
line_alone (Some (line.Shown listing)) = Err 2

by_line : (text : List ℕ) (o : Option ReportLine) → line_of text ≡ o → lines_from 1 None (text ∷ [] ∷ []) ≡ line_alone o
by_line text None is = rw is refl
by_line text (Some (line.Head number moment workers buckets)) is = rw is refl
by_line text (Some (line.Act place actor number reply)) is = rw is refl
by_line text (Some (line.Shown listing)) is = rw is refl

alone : (whole text : List ℕ) → IsWhole whole text → report_of whole ≡ line_alone (line_of text)
alone whole text is = ap (lines_from 1 None) is ∙ by_line text (line_of text) refl

read_by : (o : Option ReportLine) (lines : List ReportLine) → line_alone o ≡ Ok lines → kind_read lines ≡ kind_in o
read_by None lines is = cc
read_by (Some (line.Head number moment workers buckets)) lines is = let same : lines ≡ line.Head number moment workers buckets ∷ [] = cc in ap kind_read same
read_by (Some (line.Act place actor number reply)) lines is = let same : lines ≡ line.Act place actor number reply ∷ [] = cc in ap kind_read same
read_by (Some (line.Shown listing)) lines is = cc

pub kind_of_lines : (whole text : List ℕ) (lines : List ReportLine) → IsWhole whole text → report_of whole ≡ Ok lines → kind_read lines ≡ kind_in (line_of text)
kind_of_lines whole text lines is read = read_by (line_of text) lines (sym (alone whole text is) ∙ read)

refused_by : (o : Option ReportLine) → line_alone o ≡ Err 1 → kind.Unknown ≡ kind_in o
refused_by None is = refl
refused_by (Some (line.Head number moment workers buckets)) is = cc
refused_by (Some (line.Act place actor number reply)) is = cc
refused_by (Some (line.Shown listing)) is = cc

open_by : (o : Option ReportLine) (at : ℕ) → line_alone o ≡ Err at → (at ≡ 1 → ⊥) → kind.Listing ≡ kind_in o
open_by None at is other = let same : at ≡ 1 = cc in absurd (other same)
open_by (Some (line.Head number moment workers buckets)) at is other = cc
open_by (Some (line.Act place actor number reply)) at is other = cc
open_by (Some (line.Shown listing)) at is other = refl

pub kind_unknown : (whole text : List ℕ) (at : ℕ) → IsWhole whole text → report_of whole ≡ Err at → at ≡ 1 → kind.Unknown ≡ kind_in (line_of text)
kind_unknown whole text at is read first = refused_by (line_of text) (sym (alone whole text is) ∙ read ∙ ap Err first)

pub kind_listing : (whole text : List ℕ) (at : ℕ) → IsWhole whole text → report_of whole ≡ Err at → (at ≡ 1 → ⊥) → kind.Listing ≡ kind_in (line_of text)
kind_listing whole text at is read other = open_by (line_of text) at (sym (alone whole text is) ∙ read) other

pub judged_by_kind : (sizes : Sizes) (at : ReportText) (o : Option ReportLine) (p : Progress) → read_judged sizes at o p ≡ kind_judged sizes at (kind_in o) p
judged_by_kind sizes at None p = refl
judged_by_kind sizes at (Some (line.Head number moment workers buckets)) p = refl
judged_by_kind sizes at (Some (line.Act place actor number reply)) p = refl
judged_by_kind sizes at (Some (line.Shown listing)) p = refl

pub outside : (sizes : Sizes) (at : ReportText) (o : Option ReportLine) (known own : LineKind) (p : Progress) → known ≡ kind_in o → known ≡ own → kind_judged sizes at own p ≡ read_judged sizes at o p
outside sizes at o known own p is same =
    ap (λ (k : LineKind). kind_judged sizes at k p) (sym same ∙ is) ∙ sym (judged_by_kind sizes at o p)

pub outside_unknown : (sizes : Sizes) (at : ReportText) (o : Option ReportLine) (known : LineKind) (p x : Progress) (e : Stop) → known ≡ kind_in o → known ≡ kind.Unknown → e ≡ stop.Refused (verdict.Unreadable at.number) → Judges (Err e) x (read_judged sizes at o p)
outside_unknown sizes at o known p x e is same told =
    subst (λ (s : Stop). Judges (Err s) x (read_judged sizes at o p)) (sym told) (sym (outside sizes at o known kind.Unknown p is same))
