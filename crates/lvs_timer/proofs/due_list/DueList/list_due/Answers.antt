use Rattle.std.proofs.Common.{◌++◌, ◌∙◌, ap, sym, List, append-nil, arith, length}
use Rattle.std.specs.List.{filter}
use Rattle.std.specs.Map.Iter.{deref}
use Rattle.std.proofs.lemmas.Map.Iter.{rest_more}
use Rattle.std.proofs.lemmas.List.Sums.{length-filter}
use Rattle.lvs_timer.specs.declared.timer.Timer.{Timer}
use Rattle.lvs_timer.specs.Timers.{is_due, ids_of}
use Rattle.lvs_timer.proofs.ByDeadline.{late_from, rest_sorted}
use Rattle.lvs_timer.proofs.Due.{list_more, count_more}
use Rattle.lvs_timer.proofs.due_list.DueList.list_due.Goals as goal

pub returns-then-not-is_due-clause-ok : goal.returns-then-not-is_due-clause-ok
returns-then-not-is_due-clause-ok g c =
    let more = rest_more deref c.loop-timer.timer-iterator c.next.new.self c.next.result c.in-Some.timer c.in-Some.is c.next.ensures.steps in
    let none = late_from c.args.now c.in-Some.timer.now c.loop-timer.timer-iterator c.next.new.self more c.loop-timer.invariant.order (sym c.is_due.ensures ∙ c.if-not-is_due.true) in
    sym (append-nil c.loop-timer.ids.items) ∙ ap (λ (ts : List Timer). c.loop-timer.ids.items ++ ids_of ts) (sym none) ∙ c.loop-timer.invariant.so_far

pub returns-then-not-is_due-clause-counted : goal.returns-then-not-is_due-clause-counted
returns-then-not-is_due-clause-counted g c =
    let more = rest_more deref c.loop-timer.timer-iterator c.next.new.self c.next.result c.in-Some.timer c.in-Some.is c.next.ensures.steps in
    let none = late_from c.args.now c.in-Some.timer.now c.loop-timer.timer-iterator c.next.new.self more c.loop-timer.invariant.order (sym c.is_due.ensures ∙ c.if-not-is_due.true) in
    let long = length-filter (is_due c.args.now) c.loop-timer.timer-iterator in
    let zero_long = ap (λ (ts : List Timer). length ts) none in
    let counted = c.loop-timer.invariant.counted in
    let ticked = c.tick.ensures in
    omega arith

pub loop-timer-preserved : goal.loop-timer-preserved
loop-timer-preserved g c =
    let due = is_due c.args.now in
    let t = c.in-Some.timer.now in
    let ts = c.loop-timer.timer-iterator in
    let rest = c.next.new.self in
    let more = rest_more deref ts rest c.next.result c.in-Some.timer c.in-Some.is c.next.ensures.steps in
    let passes = sym c.is_due.ensures ∙ c.if-not-is_due.false in
    let counts = count_more due t ts rest more passes in
    let long = ap (λ (us : List Timer). length us) more in
    let counted = c.loop-timer.invariant.counted in
    let bounded = c.loop-timer.invariant.bounded in
    let ticked = c.tick.ensures in
    record {
      can = tt;
      finite = tt;
      order = rest_sorted t ts rest more c.loop-timer.invariant.order;
      so_far = list_more due t ts rest c.loop-timer.ids.items c.push.new.self.items (c.args.ids.now.items ++ ids_of (filter due c.args.self.now)) more passes c.in_ok-push.ensures.items c.loop-timer.invariant.so_far;
      counted = omega arith;
      bounded = omega arith;
    }
