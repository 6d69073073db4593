-- An item of the clock's that changes nothing can be taken before the next line.
use Rattle.std.proofs.Common.{◌≡◌, ℕ, suc, ◌+◌, ◌-◌, ◌≤◌, ◌==◌, Bool, true, false, not, ◌||◌, cond, List, [], ◌∷◌, Option, Some, None, Result, Ok, Err, length, take, drop, set, slice_get, nat_lt, refl, ◌∙◌, ap, arith}
use Rattle.std.specs.List.{list_all, slice_split}
use Rattle.std.proofs.lemmas.Bool.Decides.{nat_tests}
use Rattle.lvs_types.specs.declared.item.Item.{Item}
use Rattle.lvs_types.specs.declared.report.ReportLine.{ReportLine}
use Rattle.lvs_types.specs.declared.report.ReportLine.TheVariants as line
use Rattle.lvs_types.specs.declared.report.Verdict.{Verdict}
use Rattle.lvs_types.specs.declared.report.Verdict.TheVariants as verdict
use Rattle.lvs_model.specs.State.{State}
use Rattle.lvs_model.specs.Step.{step}
use Rattle.lvs_model.specs.Lines.{is_feed}
use Rattle.lvs_model.specs.Report.{is_printed}
use Rattle.lvs_model.specs.ReportReading.{line_of}
use Rattle.lvs_model.specs.Refusals.{◌>>=◌}
use Rattle.lvs_model.specs.Progress.{ReportText, Sizes, Queue, Progress, unreadable_if, act_words, run_silently, silent, clock_of, skipped, filled}
use Rattle.lvs_model.specs.Checking.{checked_place, actor_taken, act_judged, is_used_up, acts_ended, round_ended, listing_opened, head_said, read_judged, heads_ended, go_on, last_judged, judged_from}
use Rattle.lvs_verdicts.proofs.Walks.{queue_at}
use Rattle.lvs_verdicts.proofs.Backward.{Judged, then_ok}
use Rattle.lvs_verdicts.proofs.Refusing.{line_refuses}
use Rattle.lvs_verdicts.proofs.LegalReports.{gone_on}
use Rattle.lvs_verdicts.proofs.Passing.{Goes, at_line}

-- before the item
abbrev pub item_left : Progress → ℕ → Item → List Item → List Queue → Progress
item_left p next first items queues = record p { queues = queue_at next (first ∷ items) ∷ queues; due = [] }

-- behind it
abbrev pub item_skipped : Progress → ℕ → Item → List Item → List Queue → Progress
item_skipped p next first items queues = record p { state = (step p.state first).1; place = p.place + 1; queues = queue_at (next + 1) items ∷ queues; due = [] }

abbrev Ran : Type 0
Ran = Result State (List ℕ)

abbrev filled_with : ReportText → ℕ → Progress → Ran → Judged
filled_with at count p ran = silent at ran >>= (λ (left : State). Ok (record p { state = left; place = p.place + count; queues = set p.queues 0 (skipped count (clock_of p.queues)) }))

shifted : (at : ReportText) (k : ℕ) (p : Progress) (next : ℕ) (first : Item) (items : List Item) (queues : List Queue) (ran : Ran) → filled_with at (suc k) (item_left p next first items queues) ran ≡ filled_with at k (item_skipped p next first items queues) ran
shifted at k p next first items queues (Err words) = refl
shifted at k p next first items queues (Ok left) =
    let place : p.place + suc k ≡ p.place + 1 + k = omega arith in
    let number : next + suc k ≡ next + 1 + k = omega arith in
    ap (λ (n : ℕ). Ok (record p { state = left; place = n; queues = queue_at (next + suc k) (drop k items) ∷ queues; due = [] })) place
    ∙ ap (λ (n : ℕ). Ok (record p { state = left; place = p.place + 1 + k; queues = queue_at n (drop k items) ∷ queues; due = [] })) number

fills_one_more : (at : ReportText) (k : ℕ) (p : Progress) (next : ℕ) (first : Item) (items : List Item) (queues : List Queue) → is_printed (step p.state first).0 ≡ false → filled at (suc k) (item_left p next first items queues) ≡ filled at k (item_skipped p next first items queues)
fills_one_more at k p next first items queues quiet =
    let own = step p.state first in
    let ran = run_silently (p.place + 1) (next + 1) own.1 (take k items) in
    ap (λ (b : Bool). filled_with at (suc k) (item_left p next first items queues) (cond b (Err (act_words p.place 0 next own.0)) ran)) quiet ∙ shifted at k p next first items queues ran

acts_same : (at : ReportText) (p : Progress) (next : ℕ) (first : Item) (items : List Item) (queues : List Queue) → is_printed (step p.state first).0 ≡ false → acts_ended at (item_left p next first items queues) ≡ acts_ended at (item_skipped p next first items queues)
acts_same at p next first items queues quiet =
    let checked : Progress → Judged = λ f. unreadable_if (not (list_all is_used_up f.queues)) at >>= (λ (_ : Unit {0}). Ok f) in
    let more : length (first ∷ items) ≡ suc (length items) = omega arith in
    ap (λ (n : ℕ). filled at n (item_left p next first items queues) >>= checked) more
    ∙ ap (λ (r : Judged). r >>= checked) (fills_one_more at (length items) p next first items queues quiet)

round_same : (at : ReportText) (p : Progress) (next : ℕ) (first : Item) (items : List Item) (queues : List Queue) → is_printed (step p.state first).0 ≡ false → round_ended at (item_left p next first items queues) ≡ round_ended at (item_skipped p next first items queues)
round_same at p next first items queues quiet =
    ap (λ (r : Judged). r >>= (λ (e : Progress). unreadable_if (not (length e.shown == 0)) at >>= (λ (_ : Unit {0}). Ok e))) (acts_same at p next first items queues quiet)

-- AN ACT

no_test : (a b : Bool) (at : ReportText) (u : Unit {0}) → unreadable_if (a || b) at ≡ Ok u → (a ≡ false) × (b ≡ false)
no_test true b at u is = absurd cc
no_test false true at u is = absurd cc
no_test false false at u is = (refl, refl)

place_same : (at : ReportText) (place here there count : ℕ) → there ≡ here + 1 → nat_lt place there ≡ false → nat_lt count (place - there) ≡ false → (nat_lt place here || nat_lt (count + 1) (place - here)) ≡ false
place_same at place here there count more behind enough = grind (arith, nat_tests)

act_same : (at : ReportText) (place actor number : ℕ) (p q : Progress) (next : ℕ) (first : Item) (items : List Item) (queues : List Queue) → is_printed (step p.state first).0 ≡ false → act_judged at place actor number (item_skipped p next first items queues) ≡ Ok q → act_judged at place actor number (item_left p next first items queues) ≡ Ok q
act_same at place actor number p q next first items queues quiet is =
    let old = item_left p next first items queues in
    let new = item_skipped p next first items queues in
    let taken : Progress → Judged = λ f. actor_taken at actor number (slice_get f.queues actor) f in
    let parts = then_ok (checked_place at place new) (λ (_ : Unit {0}). filled at (place - (p.place + 1)) new >>= taken) q is in
    let tests = no_test (nat_lt place (p.place + 1)) (nat_lt (length items) (place - (p.place + 1))) at parts.0 parts.1 in
    let fine : (nat_lt place p.place || nat_lt (length items + 1) (place - p.place)) ≡ false = place_same at place p.place (p.place + 1) (length items) refl tests.0 tests.1 in
    let count : length (first ∷ items) ≡ length items + 1 = omega arith in
    let above : p.place + 1 ≤ place = grind (arith, nat_tests, tests.0) in
    let places : place - p.place ≡ suc (place - (p.place + 1)) = omega arith in
    ap (λ (n : ℕ). unreadable_if (nat_lt place p.place || nat_lt n (place - p.place)) at >>= (λ (_ : Unit {0}). filled at (place - p.place) old >>= taken)) count
    ∙ ap (λ (b : Bool). unreadable_if b at >>= (λ (_ : Unit {0}). filled at (place - p.place) old >>= taken)) fine
    ∙ ap (λ (n : ℕ). filled at n old >>= taken) places
    ∙ ap (λ (r : Judged). r >>= taken) (fills_one_more at (place - (p.place + 1)) p next first items queues quiet)
    ∙ parts.2

-- A LINE AND THE END

line_same : (sizes : Sizes) (at : ReportText) (o : Option ReportLine) (p q : Progress) (next : ℕ) (first : Item) (items : List Item) (queues : List Queue) → is_printed (step p.state first).0 ≡ false → read_judged sizes at o (item_skipped p next first items queues) ≡ Ok q → read_judged sizes at o (item_left p next first items queues) ≡ Ok q
line_same sizes at None p q next first items queues quiet is = absurd cc
line_same sizes at (Some (line.Head number moment workers buckets)) p q next first items queues quiet is =
    ap (λ (r : Judged). r >>= (λ (e : Progress). head_said sizes at e.rounds e)) (round_same at p next first items queues quiet) ∙ is
line_same sizes at (Some (line.Act place actor number reply)) p q next first items queues quiet is = act_same at place actor number p q next first items queues quiet is
line_same sizes at (Some (line.Shown listing)) p q next first items queues quiet is =
    ap (λ (r : Judged). r >>= (λ (e : Progress). listing_opened at e.shown e)) (acts_same at p next first items queues quiet) ∙ is

last_same : (number : ℕ) (last : List ℕ) (p : Progress) (next : ℕ) (first : Item) (items : List Item) (queues : List Queue) → is_printed (step p.state first).0 ≡ false → last_judged number last (item_skipped p next first items queues) ≡ verdict.Legal → last_judged number last (item_left p next first items queues) ≡ verdict.Legal
last_same number [] p next first items queues quiet is =
    let at : ReportText = record { number = number; text = [] } in
    ap (λ (r : Judged). go_on r (λ (e : Progress). heads_ended at e.rounds)) (round_same at p next first items queues quiet) ∙ is
last_same number (byte ∷ bytes) p next first items queues quiet is = absurd cc

pieces_same : (sizes : Sizes) (number : ℕ) (pieces : List (List ℕ)) (p : Progress) (next : ℕ) (first : Item) (items : List Item) (queues : List Queue) → is_printed (step p.state first).0 ≡ false → judged_from sizes number (item_skipped p next first items queues) pieces ≡ verdict.Legal → judged_from sizes number (item_left p next first items queues) pieces ≡ verdict.Legal
pieces_same sizes number [] p next first items queues quiet is = absurd cc
pieces_same sizes number (last ∷ []) p next first items queues quiet is = last_same number last p next first items queues quiet is
pieces_same sizes number (text ∷ more ∷ rest) p next first items queues quiet is =
    let at = at_line number text in
    let new = item_skipped p next first items queues in
    let behind : Progress → Verdict = λ later. judged_from sizes (number + 1) later (more ∷ rest) in
    let parts = gone_on (read_judged sizes at (line_of text) new) behind (line_refuses sizes at [] new) is in
    ap (λ (r : Judged). go_on r behind) (line_same sizes at (line_of text) p parts.0 next first items queues quiet parts.1) ∙ parts.2

pub goes_skipped : (sizes : Sizes) (text : List ℕ) (p : Progress) (next : ℕ) (first : Item) (items : List Item) (queues : List Queue) → is_printed (step p.state first).0 ≡ false → Goes sizes (item_skipped p next first items queues) text → Goes sizes (item_left p next first items queues) text
goes_skipped sizes text p next first items queues quiet later = λ number. pieces_same sizes number (slice_split is_feed text) p next first items queues quiet (later number)
