-- The clock's items fill places one after the other.
use Rattle.std.proofs.Common.{◌≡◌, ℕ, ◌+◌, ◌-◌, ◌<◌, ◌≤◌, Bool, true, false, cond, ◌==◌, List, [], ◌∷◌, None, Result, Ok, Err, length, take, drop, set, slice_get, zero, suc, refl, sym, ◌∙◌, ap, subst, arith}
use Rattle.lvs_types.specs.declared.item.Item.{Item}
use Rattle.lvs_types.specs.declared.reply.Reply.{Reply}
use Rattle.lvs_types.specs.declared.report.Verdict.{Verdict}
use Rattle.lvs_types.specs.declared.report.Verdict.TheVariants as verdict
use Rattle.lvs_model.specs.State.{State}
use Rattle.lvs_model.specs.Step.{step}
use Rattle.lvs_model.specs.Report.{is_printed}
use Rattle.lvs_model.specs.Refusals.{◌>>=◌}
use Rattle.lvs_model.specs.Progress.{ReportText, Queue, Progress, illegal, act_words, run_silently, silent, clock_of, skipped, filled}
use Rattle.std.specs.Result.{is_ok}
use Rattle.lvs_check.specs.declared.refusal.Stop.{Stop}
use Rattle.lvs_check.specs.declared.refusal.Stop.TheVariants as stop
use Rattle.lvs_check.specs.Judging.{Judges}
use Rattle.lvs_check.specs.Queues.{next_in, next_of}
use Rattle.lvs_check.proofs.ActLemmas.{queue_at, taken_pair, same_item, same_queue}

abbrev Ran : Type 0
Ran = Result State (List ℕ)

abbrev filled_with : ReportText → ℕ → Progress → Ran → Result Progress Verdict
filled_with at count p ran = silent at ran >>= (λ (left : State). Ok (record p { state = left; place = p.place + count; queues = set p.queues 0 (skipped count (clock_of p.queues)) }))

abbrev pub answer_of : Reply → State → Reply × State
answer_of reply now = (reply, now)

-- ONE PLACE

one_by : (b : Bool) (next : ℕ) (i first : Item) (items : List Item) (left : Queue) → cond b (taken_pair i (queue_at (next + 1) items)) None ≡ taken_pair first left → (take 1 (i ∷ items) ≡ first ∷ []) × (queue_at (next + 1) (drop 1 (i ∷ items)) ≡ left)
one_by true next i first items left is = (ap (λ (x : Item). x ∷ []) (same_item i first (queue_at (next + 1) items) left is), same_queue i first (queue_at (next + 1) items) left is)
one_by false next i first items left is = cc

one_in : (next : ℕ) (items : List Item) (first : Item) (left : Queue) → next_in next next items ≡ taken_pair first left → (take 1 items ≡ first ∷ []) × (queue_at (next + 1) (drop 1 items) ≡ left)
one_in next [] first left is = cc
one_in next (i ∷ items) first left is = one_by (next == next) next i first items left is

one_left : (queues : List Queue) (first : Item) (left : Queue) → next_of (clock_of queues).next (slice_get queues 0) ≡ taken_pair first left → (take 1 (clock_of queues).items ≡ first ∷ []) × (set queues 0 (skipped 1 (clock_of queues)) ≡ set queues 0 left)
one_left [] first left is = cc
one_left (q ∷ queues) first left is =
    let parts = one_in q.next q.items first left is in
    (parts.0, ap (λ (own : Queue). own ∷ queues) parts.1)

abbrev answered : Progress → Reply × State → Ran
answered p answer = cond (is_printed answer.0) (Err (act_words p.place 0 (clock_of p.queues).next answer.0)) (Ok answer.1)

filled_one : (at : ReportText) (p : Progress) (first : Item) (left : Queue) (answer : Reply × State) → next_of (clock_of p.queues).next (slice_get p.queues 0) ≡ taken_pair first left → answer ≡ step p.state first → filled at 1 p ≡ filled_with at 1 p (answered p answer)
filled_one at p first left answer is steps =
    ap (λ (items : List Item). filled_with at 1 p (run_silently p.place (clock_of p.queues).next p.state items)) (one_left p.queues first left is).0
    ∙ ap (λ (a : Reply × State). filled_with at 1 p (answered p a)) (sym steps)

pub place_filled : (at : ReportText) (p : Progress) (first : Item) (left : Queue) (answer : Reply × State) → next_of (clock_of p.queues).next (slice_get p.queues 0) ≡ taken_pair first left → answer ≡ step p.state first → is_printed answer.0 ≡ false → filled at 1 p ≡ Ok (record p { state = answer.1; place = p.place + 1; queues = set p.queues 0 left })
place_filled at p first left answer is steps silent_is =
    filled_one at p first left answer is steps
    ∙ ap (λ (b : Bool). filled_with at 1 p (cond b (Err (act_words p.place 0 (clock_of p.queues).next answer.0)) (Ok answer.1))) silent_is
    ∙ ap (λ (queues : List Queue). Ok (record p { state = answer.1; place = p.place + 1; queues = queues })) (one_left p.queues first left is).1

pub place_refused : (at : ReportText) (p : Progress) (first : Item) (left : Queue) (answer : Reply × State) → next_of (clock_of p.queues).next (slice_get p.queues 0) ≡ taken_pair first left → answer ≡ step p.state first → is_printed answer.0 ≡ true → filled at 1 p ≡ illegal at (act_words p.place 0 (clock_of p.queues).next answer.0)
place_refused at p first left answer is steps printed =
    filled_one at p first left answer is steps
    ∙ ap (λ (b : Bool). filled_with at 1 p (cond b (Err (act_words p.place 0 (clock_of p.queues).next answer.0)) (Ok answer.1))) printed

-- MORE PLACES

abbrev with_clock : Progress → ℕ → List Item → List Queue → Progress
with_clock p next items queues = record p { queues = queue_at next items ∷ queues }

abbrev behind_one : Progress → ℕ → State → List Item → List Queue → Progress
behind_one p next now items queues = record p { state = now; place = p.place + 1; queues = queue_at (next + 1) items ∷ queues }

progress_in : Progress → Result Progress Verdict → Progress
progress_in other (Ok p) = p
progress_in other (Err why) = other

same_progress : (p q : Progress) → ◌≡◌ {A = Result Progress Verdict} (Ok p) (Ok q) → p ≡ q
unfolding progress_in
same_progress p q is = ap (progress_in p) is

shifted : (at : ReportText) (k : ℕ) (p : Progress) (next : ℕ) (i : Item) (now : State) (items : List Item) (queues : List Queue) (ran : Ran) → filled_with at (suc k) (with_clock p next (i ∷ items) queues) ran ≡ filled_with at k (behind_one p next now items queues) ran
shifted at k p next i now items queues (Err words) = refl
shifted at k p next i now items queues (Ok left) =
    let place : p.place + suc k ≡ p.place + 1 + k = omega arith in
    let number : next + suc k ≡ next + 1 + k = omega arith in
    ap (λ (n : ℕ). Ok (record p { state = left; place = n; queues = queue_at (next + suc k) (drop k items) ∷ queues })) place
    ∙ ap (λ (n : ℕ). Ok (record p { state = left; place = p.place + 1 + k; queues = queue_at n (drop k items) ∷ queues })) number

more_by : (b : Bool) (at : ReportText) (k : ℕ) (p : Progress) (next : ℕ) (i : Item) (now : State) (words : List ℕ) (items : List Item) (queues : List Queue) (q : Progress) → filled_with at 1 (with_clock p next (i ∷ items) queues) (cond b (Err words) (Ok now)) ≡ Ok q
    → filled_with at (suc k) (with_clock p next (i ∷ items) queues) (cond b (Err words) (run_silently (p.place + 1) (next + 1) now (take k items))) ≡ filled at k q
more_by true at k p next i now words items queues q is = cc
more_by false at k p next i now words items queues q is =
    shifted at k p next i now items queues (run_silently (p.place + 1) (next + 1) now (take k items))
    ∙ ap (filled at k) (same_progress (behind_one p next now items queues) q is)

more_items : (at : ReportText) (k : ℕ) (p : Progress) (next : ℕ) (items : List Item) (queues : List Queue) (q : Progress) → suc k ≤ length items → filled at 1 (with_clock p next items queues) ≡ Ok q → filled at (suc k) (with_clock p next items queues) ≡ filled at k q
more_items at k p next [] queues q few is = absurd (omega arith)
more_items at k p next (i ∷ items) queues q few is =
    let now = step p.state i in
    more_by (is_printed now.0) at k p next i now.1 (act_words p.place 0 next now.0) items queues q is

more_queues : (queues : List Queue) (at : ReportText) (k : ℕ) (p q : Progress) → suc k ≤ length (clock_of queues).items → filled at 1 (record p { queues = queues }) ≡ Ok q → filled at (suc k) (record p { queues = queues }) ≡ filled at k q
more_queues [] at k p q few is = absurd (omega arith)
more_queues (own ∷ queues) at k p q few is = more_items at k p own.next own.items queues q few is

pub fill_more : (at : ReportText) (n : ℕ) (p q : Progress) → 0 < n → n ≤ length (clock_of p.queues).items → filled at 1 p ≡ Ok q → filled at n p ≡ filled at (n - 1) q
fill_more at zero p q some few is = absurd (omega arith)
fill_more at (suc k) p q some few is =
    let back : suc k - 1 ≡ k = omega arith in
    rw back (more_queues p.queues at k p q few is)

stop_by : (b : Bool) (at : ReportText) (k : ℕ) (p : Progress) (next : ℕ) (i : Item) (now : State) (words : List ℕ) (items : List Item) (queues : List Queue) (why : Verdict) → filled_with at 1 (with_clock p next (i ∷ items) queues) (cond b (Err words) (Ok now)) ≡ Err why
    → filled_with at (suc k) (with_clock p next (i ∷ items) queues) (cond b (Err words) (run_silently (p.place + 1) (next + 1) now (take k items))) ≡ Err why
stop_by true at k p next i now words items queues why is = is
stop_by false at k p next i now words items queues why is = cc

stop_items : (at : ReportText) (k : ℕ) (p : Progress) (next : ℕ) (items : List Item) (queues : List Queue) (why : Verdict) → suc k ≤ length items → filled at 1 (with_clock p next items queues) ≡ Err why → filled at (suc k) (with_clock p next items queues) ≡ Err why
stop_items at k p next [] queues why few is = absurd (omega arith)
stop_items at k p next (i ∷ items) queues why few is =
    let now = step p.state i in
    stop_by (is_printed now.0) at k p next i now.1 (act_words p.place 0 next now.0) items queues why is

stop_queues : (queues : List Queue) (at : ReportText) (k : ℕ) (p : Progress) (why : Verdict) → suc k ≤ length (clock_of queues).items → filled at 1 (record p { queues = queues }) ≡ Err why → filled at (suc k) (record p { queues = queues }) ≡ Err why
stop_queues [] at k p why few is = absurd (omega arith)
stop_queues (own ∷ queues) at k p why few is = stop_items at k p own.next own.items queues why few is

pub fill_stop : (at : ReportText) (n : ℕ) (p : Progress) (why : Verdict) → 0 < n → n ≤ length (clock_of p.queues).items → filled at 1 p ≡ Err why → filled at n p ≡ Err why
fill_stop at zero p why some few is = absurd (omega arith)
fill_stop at (suc k) p why some few is = stop_queues p.queues at k p why few is

-- NO PLACE

none_queues : (queues : List Queue) (p : Progress) → set queues 0 (skipped 0 (clock_of queues)) ≡ queues
none_queues [] p = refl
none_queues (own ∷ queues) p =
    let same : own.next + 0 ≡ own.next = omega arith in
    ap (λ (n : ℕ). queue_at n own.items ∷ queues) same

pub fill_none : (at : ReportText) (p : Progress) → filled at 0 p ≡ Ok p
fill_none at p =
    let place : p.place + 0 ≡ p.place = omega arith in
    ap (λ (n : ℕ). Ok (record p { place = n; queues = set p.queues 0 (skipped 0 (clock_of p.queues)) })) place
    ∙ ap (λ (queues : List Queue). Ok (record p { queues = queues })) (none_queues p.queues p)

-- THE LOOP

pub fill_stops : (done res : Result (Unit {0}) Stop) (x : Progress) (at : ReportText) (n : ℕ) (p : Progress) (all : Result Progress Verdict) → Judges done x (filled at 1 p) → is_ok done ≡ false → res ≡ done → 0 < n → n ≤ length (clock_of p.queues).items → filled at n p ≡ all → Judges res x all
fill_stops (Ok done) res x at n p all judged fails same some few is = cc
fill_stops (Err (stop.Refused why)) res x at n p all judged fails same some few is =
    let end : all ≡ Err why = sym is ∙ fill_stop at n p why some few judged in
    subst (λ (d : Result (Unit {0}) Stop). Judges d x all) (sym same) end
fill_stops (Err stop.NoMemory) res x at n p all judged fails same some few is = subst (λ (d : Result (Unit {0}) Stop). Judges d x all) (sym same) tt

-- ONE PLACE, AS THE CODE FILLS IT

pub fills : (at : ReportText) (p : Progress) (number : ℕ) (first : Item) (left : Queue) (reply : Reply) (now : State) (queues : List Queue) → number ≡ (clock_of p.queues).next → next_of number (slice_get p.queues 0) ≡ taken_pair first left → queues ≡ set p.queues 0 left → answer_of reply now ≡ step p.state first → is_printed reply ≡ false → filled at 1 p ≡ Ok (record p { state = now; place = p.place + 1; queues = queues })
fills at p number first left reply now queues same is changed steps silent_is =
    place_filled at p first left (answer_of reply now) (ap (λ (n : ℕ). next_of n (slice_get p.queues 0)) (sym same) ∙ is) steps silent_is
    ∙ ap (λ (qs : List Queue). Ok (record p { state = now; place = p.place + 1; queues = qs })) (sym changed)

pub refuses : (at : ReportText) (p x : Progress) (number : ℕ) (first : Item) (left : Queue) (reply : Reply) (now : State) (words : List ℕ) (refusal : Stop) → number ≡ (clock_of p.queues).next → next_of number (slice_get p.queues 0) ≡ taken_pair first left → answer_of reply now ≡ step p.state first → is_printed reply ≡ true → words ≡ act_words p.place 0 number reply → refusal ≡ stop.Refused (verdict.Illegal at.number words at.text) → Judges (Err refusal) x (filled at 1 p)
refuses at p x number first left reply now words refusal same is steps printed are told =
    let own : words ≡ act_words p.place 0 (clock_of p.queues).next reply = are ∙ ap (λ (n : ℕ). act_words p.place 0 n reply) same in
    let end : filled at 1 p ≡ illegal at words = place_refused at p first left (answer_of reply now) (ap (λ (n : ℕ). next_of n (slice_get p.queues 0)) (sym same) ∙ is) steps printed ∙ ap (λ (w : List ℕ). illegal at w) (sym own) in
    subst (λ (e : Stop). Judges (Err e) x (filled at 1 p)) (sym told) end
