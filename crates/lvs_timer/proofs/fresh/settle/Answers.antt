use Rattle.std.proofs.Common.{◌≡◌, ◌++◌, ◌∷◌, [], ◌∙◌, ◌-◌, ap, sym, List, Some, arith, length, length-append, slice_get, take}
use Rattle.lvs_timer.specs.declared.timer.Timer.{Timer}
use Rattle.lvs_timer.proofs.Kept.{split_end, new_in_due, timers_settled, once_settled}
use Rattle.lvs_timer.proofs.fresh.settle.Goals as goal

pub put-requires : goal.put-requires
put-requires c =
    let x = c.in-Some.timer.now in
    let fresh = c.loop-timer.fresh.items in
    let got : slice_get fresh (length fresh - 1) ≡ Some x = ap (λ (ts : List Timer). slice_get ts (length ts - 1)) (sym c.deref.ensures.value) ∙ sym c.in-Some.ensures.value in
    record { new = new_in_due x c.loop-timer.due fresh (take (length fresh - 1) fresh) (split_end x fresh got) c.loop-timer.invariant.once }

pub returns-in_err-put-clause-once : goal.returns-in_err-put-clause-once
returns-in_err-put-clause-once c = λ id. rw c.in_err-put.ensures.err (c.loop-timer.invariant.once id)

pub loop-timer-preserved : goal.loop-timer-preserved
loop-timer-preserved c =
    let x = c.in-Some.timer.now in
    let fresh = c.loop-timer.fresh.items in
    let rest = c.pop.new.self.items in
    let got : slice_get fresh (length fresh - 1) ≡ Some x = ap (λ (ts : List Timer). slice_get ts (length ts - 1)) (sym c.deref.ensures.value) ∙ sym c.in-Some.ensures.value in
    let long = sym c.deref.ensures.len ∙ ap (λ (ts : List Timer). length ts) c.deref.ensures.value in
    let left = c.pop.ensures.rest ∙ ap (λ n. take (n - 1) fresh) long in
    let is : fresh ≡ rest ++ x ∷ [] = split_end x fresh got ∙ ap (λ (ts : List Timer). ts ++ x ∷ []) (sym left) in
    let whole = ap (λ (ts : List Timer). length ts) is in
    let parts = length-append rest (x ∷ []) in
    let few = c.loop-timer.invariant.few in
    record {
      timers = timers_settled x c.loop-timer.due fresh rest is c.loop-timer.invariant.once c.put.new.self c.in_ok-put.ensures.ok ∙ c.loop-timer.invariant.timers;
      once = once_settled x c.loop-timer.due fresh rest is c.loop-timer.invariant.once c.put.new.self c.in_ok-put.ensures.ok;
      few = omega arith;
      capacity = c.pop.ensures.capacity ∙ c.loop-timer.invariant.capacity;
    }
