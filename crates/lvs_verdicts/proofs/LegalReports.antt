-- A report that is judged legal is the text of legal books.
use Rattle.std.proofs.Common.{◌≡◌, ℕ, ◌+◌, ◌≤◌, Bool, true, false, cond, List, [], ◌∷◌, ◌++◌, Option, Some, None, Ok, Err, length, refl, sym, ◌∙◌, ap, subst, arith}
use Rattle.std.specs.List.{slice_split, join_with_byte}
use Rattle.std.proofs.lemmas.Bool.Decides.{nat_tests}
use Rattle.std.proofs.lemmas.List.Splits.{join_with_byte-slice_split}
use Rattle.lvs_types.specs.declared.script.Script.{Script}
use Rattle.lvs_types.specs.declared.script.Round.{Round}
use Rattle.lvs_types.specs.declared.report.ReportLine.{ReportLine}
use Rattle.lvs_types.specs.declared.report.ReportLine.TheVariants as line
use Rattle.lvs_types.specs.declared.report.Verdict.{Verdict}
use Rattle.lvs_types.specs.declared.report.Verdict.TheVariants as verdict
use Rattle.lvs_model.specs.State.{initial}
use Rattle.lvs_model.specs.Legal.{AreLegalBooks}
use Rattle.lvs_model.specs.Lines.{is_feed}
use Rattle.lvs_model.specs.Report.{acts_text}
use Rattle.lvs_model.specs.ReportReading.{line_of}
use Rattle.lvs_model.specs.Progress.{ReportText, Sizes, Progress, checked_text}
use Rattle.lvs_model.specs.Checking.{round_ended, read_judged, line_judged, heads_ended, go_on, end_judged, last_judged, judged_from, are_sizes, sizes_of, nothing_judged, pieces_judged, judgement}
use Rattle.lvs_verdicts.specs.LegalTexts.{IsTextOfLegalBooks}
use Rattle.lvs_verdicts.proofs.Walks.{nothing_taken}
use Rattle.lvs_verdicts.proofs.Backward.{IsRest, Judged, then_ok, same_ok, text_is, due_text, behind_acts, rest_due, act_back, round_back, listing_back}
use Rattle.lvs_verdicts.proofs.Heads.{head_back}
use Rattle.lvs_verdicts.proofs.Refusing.{Refuses, line_refuses, round_refuses}

-- LINES

read_back : (sizes : Sizes) (at : ReportText) (o : Option ReportLine) (p q : Progress) (rest : List ℕ) → read_judged sizes at o p ≡ Ok q → line_of at.text ≡ o → p.due ≡ [] → IsRest sizes q rest → IsRest sizes p (at.text ++ 10 ∷ rest)
read_back sizes at None p q rest is read closed r = absurd cc
read_back sizes at (Some (line.Head number moment workers buckets)) p q rest is read closed r = head_back sizes at p q rest is closed r
read_back sizes at (Some (line.Act place actor number reply)) p q rest is read closed r =
    act_back sizes at place actor number p q rest is closed (λ empty. let none : line_of at.text ≡ None = ap line_of empty in absurd cc) r
read_back sizes at (Some (line.Shown listing)) p q rest is read closed r = listing_back sizes at p q rest is closed r

line_back : (sizes : Sizes) (at : ReportText) (due : List (List ℕ)) (p q : Progress) (rest : List ℕ) → line_judged sizes at due p ≡ Ok q → p.due ≡ due → IsRest sizes q rest → IsRest sizes p (at.text ++ 10 ∷ rest)
line_back sizes at [] p q rest is closed r = read_back sizes at (line_of at.text) p q rest is refl closed r
line_back sizes at (expected ∷ later) p q rest is due_is r =
    let parts = then_ok (checked_text at expected) (λ (_ : Unit {0}). Ok (record p { due = later })) q is in
    let left = subst (λ (x : Progress). IsRest sizes x rest) (sym (same_ok (record p { due = later }) q parts.2)) r in
    subst (λ (l : List ℕ). IsRest sizes p (l ++ 10 ∷ rest)) (sym (text_is at expected parts.0 parts.1)) (rest_due sizes p expected later rest due_is left)

-- A REPORT

pub gone_on : (r : Judged) (rest : Progress → Verdict) → Refuses r → go_on r rest ≡ verdict.Legal → (p : Progress) × (r ≡ Ok p) × (rest p ≡ verdict.Legal)
gone_on (Ok p) rest never is = (p, refl, is)
gone_on (Err verdict.Legal) rest never is = absurd never
gone_on (Err (verdict.Illegal number expected found)) rest never is = absurd cc
gone_on (Err (verdict.Unreadable number)) rest never is = absurd cc

no_round : (at : ReportText) (rounds : List Round) → heads_ended at rounds ≡ verdict.Legal → rounds ≡ []
no_round at [] is = refl
no_round at (round ∷ rounds) is = absurd cc

end_back : (sizes : Sizes) (at : ReportText) (due : List (List ℕ)) (p : Progress) → end_judged at due p ≡ verdict.Legal → p.due ≡ due → IsRest sizes p []
end_back sizes at [] p is closed =
    let parts = gone_on (round_ended at p) (λ (e : Progress). heads_ended at e.rounds) (round_refuses at p) is in
    let e = parts.0 in
    let both = round_back sizes at p e parts.1 in
    let ended = both.0 in
    let none : e.rounds ≡ [] = no_round at e.rounds parts.2 in
    ended.back [] (record {
      acts = [];
      left = e.state;
      books = [];
      walk = (ended.used, refl);
      legal = tt;
      each_round = ap length (sym none);
      text_is =
          ap (λ ks. behind_acts e.state ks []) (sym both.1) ∙ ap (λ (lines : List (List ℕ)). due_text lines ++ behind_acts e.state e.shown []) (sym (ended.due ∙ closed));
    })
end_back sizes at (expected ∷ later) p is due_is = absurd cc

last_back : (sizes : Sizes) (number : ℕ) (last : List ℕ) (p : Progress) → last_judged number last p ≡ verdict.Legal → IsRest sizes p last
last_back sizes number [] p is = end_back sizes (record { number = number; text = [] }) p.due p is refl
last_back sizes number (byte ∷ bytes) p is = absurd cc

judged_back : (sizes : Sizes) (number : ℕ) (p : Progress) (pieces : List (List ℕ)) → judged_from sizes number p pieces ≡ verdict.Legal → IsRest sizes p (join_with_byte 10 pieces)
judged_back sizes number p [] is = absurd cc
judged_back sizes number p (last ∷ []) is = last_back sizes number last p is
judged_back sizes number p (text ∷ next ∷ more) is =
    let at : ReportText = record { number = number; text = text } in
    let parts = gone_on (line_judged sizes at p.due p) (λ (later : Progress). judged_from sizes (number + 1) later (next ∷ more)) (line_refuses sizes at p.due p) is in
    line_back sizes at p.due p parts.0 (join_with_byte 10 (next ∷ more)) parts.1 refl (judged_back sizes (number + 1) parts.0 (next ∷ more) parts.2)

-- SIZES

record AreGood (sizes : Sizes) : Type 0 where
  some_workers : 1 ≤ sizes.workers
  few_workers : sizes.workers ≤ 16
  some_buckets : 1 ≤ sizes.buckets
  few_buckets : sizes.buckets ≤ 256

one_each : AreGood (record { workers = 1; buckets = 1 })
one_each = record { some_workers = omega arith; few_workers = omega arith; some_buckets = omega arith; few_buckets = omega arith }

good_by : (b : Bool) (workers buckets : ℕ) → are_sizes workers buckets ≡ b → AreGood (cond b (record { workers = workers; buckets = buckets }) (record { workers = 1; buckets = 1 }))
good_by true workers buckets are = record { some_workers = grind (arith, nat_tests); few_workers = grind (arith, nat_tests); some_buckets = grind (arith, nat_tests); few_buckets = grind (arith, nat_tests) }
good_by false workers buckets are = one_each

good_sizes : (o : Option ReportLine) → AreGood (sizes_of o)
good_sizes None = one_each
good_sizes (Some (line.Head number moment workers buckets)) = good_by (are_sizes workers buckets) workers buckets refl
good_sizes (Some (line.Act place actor number reply)) = one_each
good_sizes (Some (line.Shown listing)) = one_each

-- THE WHOLE

begun_back : (script : Script) (sizes : Sizes) (text : List ℕ) → AreGood sizes → IsRest sizes (nothing_judged script sizes) text → IsTextOfLegalBooks script text
begun_back script sizes text good r =
    let s = initial script.local sizes.buckets in
    let none = nothing_taken s r.acts r.left r.walk in
    record {
      workers = sizes.workers;
      buckets = sizes.buckets;
      books = r.books;
      some_workers = good.some_workers;
      few_workers = good.few_workers;
      some_buckets = good.some_buckets;
      few_buckets = good.few_buckets;
      legal = subst (λ t. AreLegalBooks sizes.workers sizes.buckets 0 t script.rounds r.books) (sym none.1) r.legal;
      each_round = r.each_round;
      text = r.text_is ∙ ap (λ acts. acts_text 0 acts ++ behind_acts r.left [] r.books) none.0;
    }

pieces_back : (script : Script) (pieces : List (List ℕ)) → pieces_judged script pieces ≡ verdict.Legal → IsTextOfLegalBooks script (join_with_byte 10 pieces)
pieces_back script [] is = absurd cc
pieces_back script (first ∷ more) is =
    let sizes = sizes_of (line_of first) in
    begun_back script sizes (join_with_byte 10 (first ∷ more)) (good_sizes (line_of first)) (judged_back sizes 1 (nothing_judged script sizes) (first ∷ more) is)

pub legal_reports : (script : Script) (report : List ℕ) → judgement script report ≡ verdict.Legal → IsTextOfLegalBooks script report
legal_reports script report is =
    subst (IsTextOfLegalBooks script) (join_with_byte-slice_split 10 report) (pieces_back script (slice_split is_feed report) is)
