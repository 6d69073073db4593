use Rattle.std.proofs.Common.{◌≡◌, ◌∙◌, ap, subst, List, Some, IfSome, IfNone, []}
use Rattle.std.specs.List.{filter, find}
use Rattle.lvs_timer.specs.declared.timer.Timer.{Timer}
use Rattle.lvs_timer.specs.Timers.{has_id, is_due}
use Rattle.lvs_timer.specs.Seen.{TimersSeen}
use Rattle.lvs_timer.proofs.Next.{due_armed, fresh_passes, fresh_armed, fresh_none}
use Rattle.lvs_timer.proofs.timers.Timers.next_due.Goals as goal

pub returns-in-Some-clause-armed : goal.returns-in-Some-clause-armed
returns-in-Some-clause-armed c =
    subst (λ (v : TimersSeen). find (has_id c.in-Some.timer.id) v.timers ≡ Some c.in-Some.timer) c.self.view_is
    (due_armed c.self.inside.due c.self.inside.fresh.items c.self.invariant.ids c.in-Some.timer c.in-Some.ensures.1)

pub returns-in-None-clause-due : goal.returns-in-None-clause-due
returns-in-None-clause-due c =
    let is = c.fresh_due.ensures ∙ ap (λ (ts : List Timer). find (is_due c.args.now) ts) c.deref.ensures.value in
    fresh_passes c.self.inside.due c.self.inside.fresh.items c.self.invariant.ids (is_due c.args.now) c.fresh_due.result is

pub returns-in-None-clause-armed : goal.returns-in-None-clause-armed
returns-in-None-clause-armed c =
    let is = c.fresh_due.ensures ∙ ap (λ (ts : List Timer). find (is_due c.args.now) ts) c.deref.ensures.value in
    subst (λ (v : TimersSeen). IfSome c.fresh_due.result (λ (t : Timer). find (has_id t.id) v.timers ≡ Some t)) c.self.view_is
    (fresh_armed c.self.inside.due c.self.inside.fresh.items c.self.invariant.ids (is_due c.args.now) c.fresh_due.result is)

pub returns-in-None-clause-none : goal.returns-in-None-clause-none
returns-in-None-clause-none c =
    let is = c.fresh_due.ensures ∙ ap (λ (ts : List Timer). find (is_due c.args.now) ts) c.deref.ensures.value in
    subst (λ (v : TimersSeen). IfNone c.fresh_due.result (filter (is_due c.args.now) v.timers ≡ [])) c.self.view_is
    (fresh_none c.self.inside.due c.self.inside.fresh.items c.self.invariant.ids (is_due c.args.now) c.fresh_due.result c.in-None.ensures is)
