use Rattle.std.proofs.Common.{rules, ◌<◌, ◌+◌, ◌++◌, ◌∙◌, ap, sym, arith, length, drop, List, ℕ, Vec, Global}
use Rattle.std.specs.List.{filter}
use Rattle.lvs_timer.specs.declared.timer.Timer.{Timer}
use Rattle.lvs_timer.specs.Timers.{is_due, ids_of}
use Rattle.lvs_timer.proofs.Due.{push_due, pass_over}
use Rattle.lvs_timer.proofs.fresh.list_fresh.Goals.{then-is_due+in_ok-push, else-is_due}
use Rattle.lvs_timer.proofs.fresh.list_fresh.Goals as goal

pub loop-timer-preserved : goal.loop-timer-preserved
loop-timer-preserved g c =
    let due = is_due c.args.now in
    let fresh = c.args.fresh.now in
    let i = c.loop-timer.timer-index in
    let d : Timer = record { deadline = 0; id = 0 } in
    let test = c.loop-timer-test.true in
    let within : i < length fresh = omega arith in
    let all = c.args.ids.now.items ++ ids_of (filter due fresh) in
    let later = ids_of (filter due (drop (i + 1) fresh)) in
    let counted = c.loop-timer.invariant.counted in
    record {
      so_far = elim c.if-is_due.branch [
        | then-is_due+in_ok-push w ↦
            ap (λ (v : Vec ℕ Global). v.items ++ later) w.ids-is ∙ ap (λ (ids : List ℕ). ids ++ later) w.in_ok-push.ensures.items
            ∙ push_due due d fresh i c.loop-timer.ids.items all within c.loop-timer.invariant.so_far (sym c.is_due.ensures ∙ w.if-is_due.true)
        | else-is_due w ↦
            ap (λ (v : Vec ℕ Global). v.items ++ later) w.ids-is
            ∙ pass_over due d fresh i c.loop-timer.ids.items all within c.loop-timer.invariant.so_far (sym c.is_due.ensures ∙ w.if-is_due.false)
      ];
      counted = search rules;
    }
