-- A line that fails is never refused by the verdict Legal.
use Rattle.std.proofs.Common.{ℕ, ◌+◌, ◌-◌, ◌==◌, Bool, true, false, not, ◌||◌, cond, List, [], ◌∷◌, Option, Some, None, Result, Ok, Err, length, take, set, slice_get, nat_lt}
use Rattle.std.specs.Prelude.{bytes_eq}
use Rattle.std.specs.List.{list_all}
use Rattle.lvs_types.specs.declared.book.Shown.{Shown}
use Rattle.lvs_types.specs.declared.script.Round.{Round}
use Rattle.lvs_types.specs.declared.item.Item.{Item}
use Rattle.lvs_types.specs.declared.report.ReportLine.{ReportLine}
use Rattle.lvs_types.specs.declared.report.ReportLine.TheVariants as line
use Rattle.lvs_types.specs.declared.report.Verdict.{Verdict}
use Rattle.lvs_types.specs.declared.report.Verdict.TheVariants as verdict
use Rattle.lvs_model.specs.State.{State}
use Rattle.lvs_model.specs.Step.{step}
use Rattle.lvs_model.specs.Report.{shown_name}
use Rattle.lvs_model.specs.ReportReading.{line_of}
use Rattle.lvs_model.specs.Refusals.{◌>>=◌}
use Rattle.lvs_model.specs.Progress.{ReportText, Sizes, Queue, Progress, unreadable, unreadable_if, checked_text, head_words, act_words, listing_lines, run_silently, silent, clock_of, skipped, filled}
use Rattle.lvs_model.specs.Checking.{checked_place, act_taken, next_taken, actor_taken, act_judged, is_used_up, acts_ended, round_ended, listing_opened, round_begun, head_said, read_judged, line_judged}

-- no refusal is Legal
abbrev pub Refuses : {A : Type 0} → Result A Verdict → Type 0
Refuses (Ok x) = Unit {0}
Refuses (Err verdict.Legal) = ⊥
Refuses (Err (verdict.Illegal number expected found)) = Unit {0}
Refuses (Err (verdict.Unreadable number)) = Unit {0}

then_refuses : {A B : Type 0} (r : Result A Verdict) (f : A → Result B Verdict) → Refuses r → ((x : A) → Refuses (f x)) → Refuses (r >>= f)
then_refuses (Ok x) f first later = later x
then_refuses (Err verdict.Legal) f first later = absurd first
then_refuses (Err (verdict.Illegal number expected found)) f first later = tt
then_refuses (Err (verdict.Unreadable number)) f first later = tt

either : {A : Type 0} (b : Bool) (x y : Result A Verdict) → Refuses x → Refuses y → Refuses (cond b x y)
either true x y first second = first
either false x y first second = second

text_refuses : (at : ReportText) (expected : List ℕ) → Refuses (checked_text at expected)
text_refuses at expected = either (bytes_eq at.text expected) (Ok tt) (Err (verdict.Illegal at.number expected at.text)) tt tt

if_refuses : (fails : Bool) (at : ReportText) → Refuses (unreadable_if fails at)
if_refuses fails at = either fails (unreadable at) (Ok tt) tt tt

silent_refuses : (at : ReportText) (ran : Result State (List ℕ)) → Refuses (silent at ran)
silent_refuses at (Ok s) = tt
silent_refuses at (Err words) = tt

filled_refuses : (at : ReportText) (count : ℕ) (p : Progress) → Refuses (filled at count p)
filled_refuses at count p =
    then_refuses (silent at (run_silently p.place (clock_of p.queues).next p.state (take count (clock_of p.queues).items))) (λ (left : State). Ok (record p { state = left; place = p.place + count; queues = set p.queues 0 (skipped count (clock_of p.queues)) })) (silent_refuses at _) (λ left. tt)

next_refuses : (at : ReportText) (actor number next : ℕ) (items : List Item) (p : Progress) → Refuses (next_taken at actor number next items p)
next_refuses at actor number next [] p = tt
next_refuses at actor number next (first ∷ items) p =
    let words = act_words p.place actor number (step p.state first).0 in
    let after = record p { state = (step p.state first).1; place = p.place + 1; queues = set p.queues actor (record { next = number + 1; items = items }) } in
    either (number == next) (act_taken at actor number first items p) (unreadable at) (then_refuses (checked_text at words) (λ (_ : Unit {0}). Ok after) (text_refuses at words) (λ _. tt)) tt

actor_refuses : (at : ReportText) (actor number : ℕ) (o : Option Queue) (p : Progress) → Refuses (actor_taken at actor number o p)
actor_refuses at actor number None p = tt
actor_refuses at actor number (Some q) p = next_refuses at actor number q.next q.items p

act_refuses : (at : ReportText) (place actor number : ℕ) (p : Progress) → Refuses (act_judged at place actor number p)
act_refuses at place actor number p =
    let taken : Progress → Result Progress Verdict = λ f. actor_taken at actor number (slice_get f.queues actor) f in
    then_refuses (checked_place at place p) (λ (_ : Unit {0}). filled at (place - p.place) p >>= taken) (if_refuses (nat_lt place p.place || nat_lt (length (clock_of p.queues).items) (place - p.place)) at)
    (λ _. then_refuses (filled at (place - p.place) p) taken (filled_refuses at (place - p.place) p) (λ f. actor_refuses at actor number (slice_get f.queues actor) f))

acts_refuse : (at : ReportText) (p : Progress) → Refuses (acts_ended at p)
acts_refuse at p =
    let count = length (clock_of p.queues).items in
    then_refuses (filled at count p) (λ (f : Progress). unreadable_if (not (list_all is_used_up f.queues)) at >>= (λ (_ : Unit {0}). Ok f)) (filled_refuses at count p)
    (λ f. then_refuses (unreadable_if (not (list_all is_used_up f.queues)) at) (λ (_ : Unit {0}). Ok f) (if_refuses (not (list_all is_used_up f.queues)) at) (λ _. tt))

pub round_refuses : (at : ReportText) (p : Progress) → Refuses (round_ended at p)
round_refuses at p =
    then_refuses (acts_ended at p) (λ (e : Progress). unreadable_if (not (length e.shown == 0)) at >>= (λ (_ : Unit {0}). Ok e)) (acts_refuse at p)
    (λ e. then_refuses (unreadable_if (not (length e.shown == 0)) at) (λ (_ : Unit {0}). Ok e) (if_refuses (not (length e.shown == 0)) at) (λ _. tt))

opened_refuses : (at : ReportText) (kinds : List Shown) (p : Progress) → Refuses (listing_opened at kinds p)
opened_refuses at [] p = tt
opened_refuses at (kind ∷ kinds) p = either (bytes_eq at.text (shown_name kind)) (Ok (record p { shown = kinds; due = listing_lines p.state kind })) (unreadable at) tt tt

said_refuses : (sizes : Sizes) (at : ReportText) (rounds : List Round) (p : Progress) → Refuses (head_said sizes at rounds p)
said_refuses sizes at [] p = tt
said_refuses sizes at (round ∷ rounds) p = either (bytes_eq at.text (head_words p.number round.moment sizes)) (Ok (round_begun sizes round rounds p)) (unreadable at) tt tt

read_refuses : (sizes : Sizes) (at : ReportText) (o : Option ReportLine) (p : Progress) → Refuses (read_judged sizes at o p)
read_refuses sizes at None p = tt
read_refuses sizes at (Some (line.Head number moment workers buckets)) p = then_refuses (round_ended at p) (λ (e : Progress). head_said sizes at e.rounds e) (round_refuses at p) (λ e. said_refuses sizes at e.rounds e)
read_refuses sizes at (Some (line.Act place actor number reply)) p = act_refuses at place actor number p
read_refuses sizes at (Some (line.Shown listing)) p = then_refuses (acts_ended at p) (λ (e : Progress). listing_opened at e.shown e) (acts_refuse at p) (λ e. opened_refuses at e.shown e)

pub line_refuses : (sizes : Sizes) (at : ReportText) (due : List (List ℕ)) (p : Progress) → Refuses (line_judged sizes at due p)
line_refuses sizes at [] p = read_refuses sizes at (line_of at.text) p
line_refuses sizes at (expected ∷ later) p = then_refuses (checked_text at expected) (λ (_ : Unit {0}). Ok (record p { due = later })) (text_refuses at expected) (λ _. tt)
