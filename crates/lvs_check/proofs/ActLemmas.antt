-- The next item of an actor is taken.
use Rattle.std.proofs.Common.{◌≡◌, ℕ, ◌+◌, Bool, true, false, cond, ◌==◌, List, [], ◌∷◌, Option, Some, None, Result, Ok, Err, length, set, slice_get, zero, suc, refl, sym, ◌∙◌, ap, subst, arith}
use Rattle.lvs_types.specs.declared.item.Item.{Item}
use Rattle.lvs_types.specs.declared.reply.Reply.{Reply}
use Rattle.lvs_types.specs.declared.report.Verdict.{Verdict}
use Rattle.lvs_model.specs.State.{State}
use Rattle.lvs_model.specs.Step.{step}
use Rattle.lvs_model.specs.Refusals.{◌>>=◌}
use Rattle.lvs_model.specs.Progress.{ReportText, Queue, Progress, unreadable, checked_text, act_words}
use Rattle.lvs_model.specs.Checking.{act_taken, next_taken, actor_taken}
use Rattle.lvs_check.specs.Queues.{next_in, next_of}
use Rattle.std.specs.Result.{is_ok}
use Rattle.lvs_check.specs.declared.refusal.Stop.{Stop}
use Rattle.lvs_check.specs.Judging.{Judges}
use Rattle.lvs_check.specs.Walks.{items_left}
use Rattle.lvs_check.proofs.Judged.{stops, along}

pub item_in : Item → Option (Item × Queue) → Item
item_in other None = other
item_in other (Some both) = both.0

pub queue_in : Queue → Option (Item × Queue) → Queue
queue_in other None = other
queue_in other (Some both) = both.1

abbrev pub queue_at : ℕ → List Item → Queue
queue_at next items = record { next = next; items = items }

abbrev pub taken_pair : Item → Queue → Option (Item × Queue)
taken_pair first left = Some (first, left)

pub same_item : (i first : Item) (q left : Queue) → taken_pair i q ≡ taken_pair first left → i ≡ first
unfolding item_in
same_item i first q left is = ap (item_in first) is

pub same_queue : (i first : Item) (q left : Queue) → taken_pair i q ≡ taken_pair first left → q ≡ left
unfolding queue_in
same_queue i first q left is = ap (queue_in left) is

-- what is known behind an act
abbrev pub after : ℕ → Progress → Queue → State → Progress
after actor p left now = record p { state = now; place = p.place + 1; queues = set p.queues actor left }

-- by the director's answer
abbrev pub told : ReportText → ℕ → ℕ → Queue → Progress → Reply × State → Result Progress Verdict
told at actor number left p answer = checked_text at (act_words p.place actor number answer.0) >>= (λ (_ : Unit {0}). Ok (after actor p left answer.1))

taken_by : (b : Bool) (at : ReportText) (actor number : ℕ) (i first : Item) (items : List Item) (left : Queue) (p : Progress) → cond b (taken_pair i (queue_at (number + 1) items)) None ≡ taken_pair first left → cond b (act_taken at actor number i items p) (unreadable at) ≡ told at actor number left p (step p.state first)
taken_by true at actor number i first items left p is =
    ap (λ (x : Item). told at actor number (queue_at (number + 1) items) p (step p.state x)) (same_item i first (queue_at (number + 1) items) left is)
    ∙ ap (λ (q : Queue). told at actor number q p (step p.state first)) (same_queue i first (queue_at (number + 1) items) left is)
taken_by false at actor number i first items left p is = cc

taken_in : (at : ReportText) (actor number next : ℕ) (items : List Item) (first : Item) (left : Queue) (p : Progress) → next_in number next items ≡ taken_pair first left → next_taken at actor number next items p ≡ told at actor number left p (step p.state first)
taken_in at actor number next [] first left p is = cc
taken_in at actor number next (i ∷ items) first left p is = taken_by (number == next) at actor number i first items left p is

pub taken : (at : ReportText) (actor number : ℕ) (o : Option Queue) (first : Item) (left : Queue) (p : Progress) (answer : Reply × State) → next_of number o ≡ taken_pair first left → answer ≡ step p.state first → actor_taken at actor number o p ≡ told at actor number left p answer
taken at actor number None first left p answer is steps = cc
taken at actor number (Some q) first left p answer is steps = taken_in at actor number q.next q.items first left p is ∙ ap (told at actor number left p) (sym steps)

refused_by : (b : Bool) (at : ReportText) (actor number : ℕ) (i : Item) (items : List Item) (p : Progress) → cond b (taken_pair i (queue_at (number + 1) items)) None ≡ None → cond b (act_taken at actor number i items p) (unreadable at) ≡ unreadable at
refused_by true at actor number i items p is = cc
refused_by false at actor number i items p is = refl

refused_in : (at : ReportText) (actor number next : ℕ) (items : List Item) (p : Progress) → next_in number next items ≡ None → next_taken at actor number next items p ≡ unreadable at
refused_in at actor number next [] p is = refl
refused_in at actor number next (i ∷ items) p is = refused_by (number == next) at actor number i items p is

pub not_taken : (at : ReportText) (actor number : ℕ) (o : Option Queue) (p : Progress) → next_of number o ≡ None → actor_taken at actor number o p ≡ unreadable at
not_taken at actor number None p is = refl
not_taken at actor number (Some q) p is = refused_in at actor number q.next q.items p is

-- how many items are left

fewer_by : (b : Bool) (number : ℕ) (i first : Item) (items : List Item) (left : Queue) → cond b (taken_pair i (queue_at (number + 1) items)) None ≡ taken_pair first left → length left.items + 1 ≡ length (i ∷ items)
fewer_by true number i first items left is =
    let same : items ≡ left.items = ap (λ (q : Queue). q.items) (same_queue i first (queue_at (number + 1) items) left is) in
    omega (arith, ap length same)
fewer_by false number i first items left is = cc

pub fewer_in : (number next : ℕ) (items : List Item) (first : Item) (left : Queue) → next_in number next items ≡ taken_pair first left → length left.items + 1 ≡ length items
fewer_in number next [] first left is = cc
fewer_in number next (i ∷ items) first left is = fewer_by (number == next) number i first items left is

pub fewer_left : (queues : List Queue) (actor number : ℕ) (first : Item) (left : Queue) → next_of number (slice_get queues actor) ≡ taken_pair first left → items_left (set queues actor left) + 1 ≡ items_left queues
fewer_left [] actor number first left is = cc
fewer_left (q ∷ queues) zero number first left is = omega (arith, fewer_in number q.next q.items first left is)
fewer_left (q ∷ queues) (suc actor) number first left is = omega (arith, fewer_left queues actor number first left is)

pub act_goes : (at : ReportText) (actor number : ℕ) (left : Queue) (p : Progress) (answer : Reply × State) (words : List ℕ) (queues : List Queue) → checked_text at words ≡ Ok tt → words ≡ act_words p.place actor number answer.0 → queues ≡ set p.queues actor left → told at actor number left p answer ≡ Ok (record p { state = answer.1; place = p.place + 1; queues = queues })
act_goes at actor number left p answer words queues checked are changed =
    ap (λ (r : Result (Unit {0}) Verdict). r >>= (λ (_ : Unit {0}). Ok (after actor p left answer.1))) (ap (checked_text at) (sym are) ∙ checked)
    ∙ ap (λ (qs : List Queue). Ok (record p { state = answer.1; place = p.place + 1; queues = qs })) (sym changed)

pub act_stops : (done res : Result (Unit {0}) Stop) (x : Progress) (at : ReportText) (actor number : ℕ) (left : Queue) (p : Progress) (answer : Reply × State) (words : List ℕ) → Judges done tt (checked_text at words) → is_ok done ≡ false → res ≡ done → words ≡ act_words p.place actor number answer.0 → Judges res x (told at actor number left p answer)
act_stops (Ok done) res x at actor number left p answer words judged fails same are = cc
act_stops (Err e) res x at actor number left p answer words judged fails same are =
    let rest : Unit {0} → Result Progress Verdict = λ _. Ok (after actor p left answer.1) in
    let stopped : Judges (Err e) x (checked_text at words >>= rest) = stops e tt x (checked_text at words) rest judged in
    let moved : Judges (Err e) x (told at actor number left p answer) = along (Err e) x (checked_text at words >>= rest) (told at actor number left p answer) (ap (λ (w : List ℕ). checked_text at w >>= rest) are) stopped in
    subst (λ (d : Result (Unit {0}) Stop). Judges d x (told at actor number left p answer)) (sym same) moved
