-- A report by its first line and the rest, and by the sizes that its first line says.
use Rattle.std.proofs.Common.{◌≡◌, ℕ, ◌+◌, ◌<◌, Bool, true, false, cond, not, List, [], ◌∷◌, length, take, suc, Option, Some, None, Result, Ok, Err, refl, sym, ◌∙◌, ap, subst, arith}
use Rattle.std.specs.List.{slice_split, position_or_len, onto_first}
use Rattle.std.proofs.lemmas.List.Splits.{length-slice_split}
use Rattle.lvs_types.specs.declared.script.Script.{Script}
use Rattle.lvs_types.specs.declared.report.ReportLine.{ReportLine}
use Rattle.lvs_types.specs.declared.report.ReportLine.TheVariants as line
use Rattle.lvs_types.specs.declared.report.Verdict.{Verdict}
use Rattle.lvs_model.specs.Lines.{is_feed, cut_by}
use Rattle.lvs_model.specs.ReportReading.{line_of}
use Rattle.lvs_model.specs.Progress.{ReportText, Sizes, Progress}
use Rattle.lvs_model.specs.Checking.{line_judged, go_on, last_judged, judged_from, sizes_of, nothing_judged, pieces_judged, judgement}
use Rattle.lvs_lines.proofs.Splits.{cut_pair, split_found, split_missed}
use Rattle.std.specs.Prelude.{IfOk}
use Rattle.lvs_types.specs.declared.memory.NoMemory.{NoMemory}
use Rattle.lvs_check.specs.declared.refusal.Stop.{Stop}
use Rattle.lvs_check.specs.declared.refusal.Stop.TheVariants as stop
use Rattle.lvs_check.specs.Judging.{Judges}
use Rattle.lvs_check.specs.Texts.{IsWhole}
use Rattle.lvs_check.specs.Kinds.{kind_in, said_by, judged_with}
use Rattle.lvs_check.proofs.DueLines.{cut_at}

abbrev line_at : ℕ → List ℕ → ReportText
line_at number text = record { number = number; text = text }

more_pieces : (sizes : Sizes) (number : ℕ) (p : Progress) (text : List ℕ) (pieces : List (List ℕ)) → 0 < length pieces → judged_from sizes number p (text ∷ pieces) ≡ go_on (line_judged sizes (line_at number text) p.due p) (λ (later : Progress). judged_from sizes (number + 1) later pieces)
more_pieces sizes number p text [] some = absurd (omega arith)
more_pieces sizes number p text (next ∷ more) some = refl

cut_off : (sizes : Sizes) (number : ℕ) (p : Progress) (text line after : List ℕ) → cut_pair line after ≡ cut_by is_feed text → judged_from sizes number p (slice_split is_feed text) ≡ go_on (line_judged sizes (line_at number line) p.due p) (λ (later : Progress). judged_from sizes (number + 1) later (slice_split is_feed after))
cut_off sizes number p text line after cut =
    ap (judged_from sizes number p) (split_found is_feed text line after cut)
    ∙ more_pieces sizes number p line (slice_split is_feed after) (omega (arith, length-slice_split is_feed after))

abbrev gone_on : Sizes → ℕ → List ℕ → Result Progress Verdict → Verdict
gone_on sizes number after judged = go_on judged (λ (later : Progress). judged_from sizes (number + 1) later (slice_split is_feed after))

pub line_goes : (sizes : Sizes) (number : ℕ) (p q : Progress) (text line after : List ℕ) (whole : Verdict) → cut_pair line after ≡ cut_by is_feed text → line_judged sizes (line_at number line) p.due p ≡ Ok q → judged_from sizes number p (slice_split is_feed text) ≡ whole → judged_from sizes (number + 1) q (slice_split is_feed after) ≡ whole
line_goes sizes number p q text line after whole cut judged is =
    sym (ap (gone_on sizes number after) judged) ∙ sym (cut_off sizes number p text line after cut) ∙ is

pub line_stops : (sizes : Sizes) (number : ℕ) (p : Progress) (text line after : List ℕ) (whole why : Verdict) → cut_pair line after ≡ cut_by is_feed text → line_judged sizes (line_at number line) p.due p ≡ Err why → judged_from sizes number p (slice_split is_feed text) ≡ whole → why ≡ whole
line_stops sizes number p text line after whole why cut judged is =
    sym (ap (gone_on sizes number after) judged) ∙ sym (cut_off sizes number p text line after cut) ∙ is

pub line_refused : (result : Result Verdict NoMemory) (e : Stop) (x : Progress) (sizes : Sizes) (number : ℕ) (p : Progress) (text line after : List ℕ) (whole : Verdict) → IfOk result (λ why. e ≡ stop.Refused why) → Judges (Err e) x (line_judged sizes (line_at number line) p.due p) → cut_pair line after ≡ cut_by is_feed text → judged_from sizes number p (slice_split is_feed text) ≡ whole → IfOk result (λ why. why ≡ whole)
line_refused (Ok why) e x sizes number p text line after whole told judged cut is =
    line_stops sizes number p text line after whole why cut (subst (λ (s : Stop). Judges (Err s) x (line_judged sizes (line_at number line) p.due p)) told judged) is
line_refused (Err none) e x sizes number p text line after whole told judged cut is = tt

pub line_ends : (sizes : Sizes) (number : ℕ) (p : Progress) (text : List ℕ) (whole : Verdict) → None ≡ cut_by is_feed text → judged_from sizes number p (slice_split is_feed text) ≡ whole → last_judged number text p ≡ whole
line_ends sizes number p text whole cut is = sym (ap (judged_from sizes number p) (split_missed is_feed text cut)) ∙ is

pub line_ended : (result : Result Verdict NoMemory) (sizes : Sizes) (number : ℕ) (p : Progress) (text : List ℕ) (whole : Verdict) → IfOk result (λ why. why ≡ last_judged number text p) → None ≡ cut_by is_feed text → judged_from sizes number p (slice_split is_feed text) ≡ whole → IfOk result (λ why. why ≡ whole)
line_ended (Ok why) sizes number p text whole told cut is = told ∙ line_ends sizes number p text whole cut is
line_ended (Err none) sizes number p text whole told cut is = tt

-- A LINE WITH ITS LINE FEED

take_suc : (b : ℕ) (bs : List ℕ) (n : ℕ) → take (1 + n) (b ∷ bs) ≡ b ∷ take n bs
take_suc b bs n = let one : 1 + n ≡ suc n = omega arith in rw one refl

first_by : (b : Bool) (c : ℕ) (cs : List ℕ) (n : ℕ) → b ≡ is_feed c → (n < length cs → slice_split is_feed (take (n + 1) cs) ≡ take n cs ∷ [] ∷ []) → cond (not b) (1 + n) 0 < length (c ∷ cs) → slice_split is_feed (take (cond (not b) (1 + n) 0 + 1) (c ∷ cs)) ≡ take (cond (not b) (1 + n) 0) (c ∷ cs) ∷ [] ∷ []
first_by true c cs n is later within = ap (λ (b : Bool). cond b ([] ∷ [] ∷ []) (onto_first c ([] ∷ []))) (sym is)
first_by false c cs n is later within =
    let more : 1 + n + 1 ≡ 1 + (n + 1) = omega arith in
    let short : n < length cs = omega arith in
    ap (λ (k : ℕ). slice_split is_feed (take k (c ∷ cs))) more
    ∙ ap (slice_split is_feed) (take_suc c cs (n + 1))
    ∙ ap (λ (b : Bool). cond b ([] ∷ slice_split is_feed (take (n + 1) cs)) (onto_first c (slice_split is_feed (take (n + 1) cs)))) (sym is)
    ∙ ap (onto_first c) (later short)
    ∙ ap (λ (l : List ℕ). l ∷ [] ∷ []) (sym (take_suc c cs n))

first_whole : (text : List ℕ) → position_or_len is_feed text < length text → slice_split is_feed (take (position_or_len is_feed text + 1) text) ≡ take (position_or_len is_feed text) text ∷ [] ∷ []
first_whole [] within = absurd (omega arith)
first_whole (c ∷ cs) within = first_by (is_feed c) c cs (position_or_len is_feed cs) refl (first_whole cs) within

pub whole_line : (text line after : List ℕ) → cut_pair line after ≡ cut_by is_feed text → IsWhole (take (length line + 1) text) line
whole_line text line after cut =
    let n = position_or_len is_feed text in
    let parts = cut_at text line after cut in
    ap (λ (k : ℕ). slice_split is_feed (take (k + 1) text)) (parts.2)
    ∙ first_whole text parts.0
    ∙ ap (λ (l : List ℕ). l ∷ [] ∷ []) (sym parts.1)

-- THE SIZES OF THE FIRST LINE

pub same_sizes : (o : Option ReportLine) → said_by (kind_in o) ≡ sizes_of o
same_sizes None = refl
same_sizes (Some (line.Head number moment workers buckets)) = refl
same_sizes (Some (line.Act place actor number reply)) = refl
same_sizes (Some (line.Shown listing)) = refl

pub first_said : (script : Script) (text line after : List ℕ) (sizes : Sizes) → cut_pair line after ≡ cut_by is_feed text → sizes ≡ sizes_of (line_of line) → judged_with script text sizes ≡ judgement script text
first_said script text line after sizes cut said =
    let split = split_found is_feed text line after cut in
    ap (judged_with script text) said
    ∙ ap (judged_from (sizes_of (line_of line)) 1 (nothing_judged script (sizes_of (line_of line)))) split
    ∙ sym (ap (pieces_judged script) split)

abbrev one_each : Sizes
one_each = record { workers = 1; buckets = 1 }

alone_by : (script : Script) (text : List ℕ) → judged_from one_each 1 (nothing_judged script one_each) (text ∷ []) ≡ pieces_judged script (text ∷ [])
alone_by script [] = refl
alone_by script (b ∷ bytes) = refl

pub nothing_said : (script : Script) (text : List ℕ) → None ≡ cut_by is_feed text → judged_with script text one_each ≡ judgement script text
nothing_said script text cut =
    let split = split_missed is_feed text cut in
    ap (judged_from one_each 1 (nothing_judged script one_each)) split
    ∙ alone_by script text
    ∙ sym (ap (pieces_judged script) split)
