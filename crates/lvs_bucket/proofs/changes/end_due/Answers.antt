use Rattle.std.proofs.Common.{◌≡◌, ◌∙◌, ap, sym, List, Some, Option, None, IfNone}
use Rattle.std.specs.List.{find, filter}
use Rattle.lvs_types.specs.declared.entry.Entry.{Entry}
use Rattle.lvs_model.specs.Lists.{without}
use Rattle.lvs_model.specs.Buckets.{is_due_entry}
use Rattle.lvs_timer.specs.declared.timer.Timer.{Timer}
use Rattle.lvs_timer.specs.Timers.{has_id, is_due}
use Rattle.lvs_bucket.proofs.Rising.{less}
use Rattle.lvs_bucket.proofs.Timed.{entry_of, due_left, none_due}
use Rattle.lvs_bucket.proofs.changes.end_due.Goals as goal

-- what is said of no answer holds where there is none
none_by : {X : Type 0} {P : Type 0} (o : Option X) → o ≡ None → IfNone o P → P
none_by None is said = said
none_by (Some x) is said = absurd (cc)

pub loop-timer-smaller : goal.loop-timer-smaller
loop-timer-smaller c =
    let t = c.in-Some.timer in
    let es = c.loop-timer.entries.entries in
    let e = entry_of t es (ap (λ (ts : List Timer). find (has_id t.id) ts) (sym c.loop-timer.invariant.pair.timers) ∙ c.in-Some.ensures.armed) in
    rw c.end.ensures.entries (less t.id e.entry es e.found)

pub loop-timer-preserved : goal.loop-timer-preserved
loop-timer-preserved c =
    let t = c.in-Some.timer in
    let es = c.loop-timer.entries.entries in
    let e = entry_of t es (ap (λ (ts : List Timer). find (has_id t.id) ts) (sym c.loop-timer.invariant.pair.timers) ∙ c.in-Some.ensures.armed) in
    record {
      pair = c.end.ensures.pair;
      left = ap (λ (ds : List Entry). without (is_due_entry c.args.moment) ds) c.end.ensures.entries ∙ due_left c.args.moment t es c.loop-timer.invariant.pair.listed e c.in-Some.ensures.due ∙ c.loop-timer.invariant.left;
    }

pub returns-clause-entries : goal.returns-clause-entries
returns-clause-entries c =
    let none = ap (λ (ts : List Timer). filter (is_due c.args.moment) ts) (sym c.loop-timer.invariant.pair.timers) ∙ none_by c.next_due.result c.in_default.is c.next_due.ensures.none in
    sym (none_due c.args.moment c.loop-timer.entries.entries none) ∙ c.loop-timer.invariant.left
