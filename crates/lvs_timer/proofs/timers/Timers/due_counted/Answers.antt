use Rattle.std.proofs.Common.{◌++◌, ◌∙◌, ap, arith, count_by, List, length, sym}
use Rattle.std.specs.List.{filter}
use Rattle.std.proofs.lemmas.List.Sorted.{IsNonDecreasingBy-from_sort}
use Rattle.lvs_timer.specs.declared.timer.Timer.{Timer}
use Rattle.lvs_timer.specs.Timers.{is_due, ids_of}
use Rattle.lvs_timer.specs.Seen.{TimersSeen}
use Rattle.lvs_timer.proofs.Due.{itself, counts, gathered_is, few_ids, sorted_ids, rising, are_listed}
use Rattle.lvs_timer.proofs.timers.Timers.due_counted.Goals as goal

pub returns-in_err-list_due-clause-steps : goal.returns-in_err-list_due-clause-steps
returns-in_err-list_due-clause-steps g c =
    let viewed = ap (λ (v : TimersSeen). count_by (is_due c.args.now) v.timers) c.self.view_is in
    let parts = counts (is_due c.args.now) c.self.inside.due c.self.inside.fresh.items in
    let few = c.self.invariant.few in
    let first = c.list_due.ensures.steps in
    omega arith

pub returns-in_err-list_due-clause-listed : goal.returns-in_err-list_due-clause-listed
returns-in_err-list_due-clause-listed g c = rw (← c.self.view_is) (are_listed (c.self.inside.due ++ c.self.inside.fresh.items) c.self.invariant.ids)

pub returns-in_err-list_fresh-clause-steps : goal.returns-in_err-list_fresh-clause-steps
returns-in_err-list_fresh-clause-steps g c =
    let viewed = ap (λ (v : TimersSeen). count_by (is_due c.args.now) v.timers) c.self.view_is in
    let parts = counts (is_due c.args.now) c.self.inside.due c.self.inside.fresh.items in
    let few = c.self.invariant.few in
    let first = c.list_due.ensures.steps in
    let second = c.list_fresh.ensures.steps in
    let seen = ap (λ (ts : List Timer). length ts) c.deref.ensures.value in
    omega arith

pub returns-in_err-list_fresh-clause-listed : goal.returns-in_err-list_fresh-clause-listed
returns-in_err-list_fresh-clause-listed g c = rw (← c.self.view_is) (are_listed (c.self.inside.due ++ c.self.inside.fresh.items) c.self.invariant.ids)

is_ids : goal.returns-clause-ids
is_ids g c =
    let due = c.self.inside.due in
    let fresh = c.self.inside.fresh.items in
    let now = c.args.now in
    let third = c.in_ok-list_fresh.ensures.ok ∙ ap (λ (ts : List Timer). c.list_due.new.ids.items ++ ids_of (filter (is_due now) ts)) c.deref.ensures.value in
    let gathered = gathered_is (is_due now) due fresh c.new-ids.result.items c.list_due.new.ids.items c.list_fresh.new.ids.items c.new-ids.ensures.items c.in_ok-list_due.ensures.ok third in
    sorted_ids (due ++ fresh) c.self.invariant.ids (is_due now) c.list_fresh.new.ids.items c.sort_unstable.new.self.items gathered c.sort_unstable.ensures.permutation
    (IsNonDecreasingBy-from_sort itself c.sort_unstable.new.self.items c.sort_unstable.ensures.sorted)
    ∙ ap (λ (v : TimersSeen). ids_of (filter (is_due now) v.timers)) c.self.view_is

pub returns-clause-ids : goal.returns-clause-ids
returns-clause-ids = is_ids

pub returns-clause-rising : goal.returns-clause-rising
returns-clause-rising g c = rw (is_ids g c, ← c.self.view_is) (rising (c.self.inside.due ++ c.self.inside.fresh.items) c.self.invariant.ids (is_due c.args.now))

pub returns-clause-counted : goal.returns-clause-counted
returns-clause-counted g c =
    let ids = is_ids g c ∙ ap (λ (v : TimersSeen). ids_of (filter (is_due c.args.now) v.timers)) (sym c.self.view_is) in
    let less = few_ids (is_due c.args.now) c.self.inside.due c.self.inside.fresh.items c.sort_unstable.new.self.items ids in
    let first = c.in_ok-list_due.ensures.counted in
    let second = c.in_ok-list_fresh.ensures.counted in
    let seen = ap (λ (ts : List Timer). length ts) c.deref.ensures.value in
    omega arith

pub returns-clause-steps : goal.returns-clause-steps
returns-clause-steps g c =
    let viewed = ap (λ (v : TimersSeen). count_by (is_due c.args.now) v.timers) c.self.view_is in
    let parts = counts (is_due c.args.now) c.self.inside.due c.self.inside.fresh.items in
    let few = c.self.invariant.few in
    let first = c.list_due.ensures.steps in
    let second = c.list_fresh.ensures.steps in
    let seen = ap (λ (ts : List Timer). length ts) c.deref.ensures.value in
    omega arith

pub returns-clause-listed : goal.returns-clause-listed
returns-clause-listed g c = rw (← c.self.view_is) (are_listed (c.self.inside.due ++ c.self.inside.fresh.items) c.self.invariant.ids)
