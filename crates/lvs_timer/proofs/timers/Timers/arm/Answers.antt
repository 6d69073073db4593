use Rattle.std.proofs.Common.{◌≡◌, ◌++◌, ◌∙◌, ap, sym, subst, List, None, arith}
use Rattle.std.specs.List.{find}
use Rattle.lvs_model.specs.Lists.{insert_by}
use Rattle.lvs_timer.specs.declared.timer.Timer.{Timer}
use Rattle.lvs_timer.specs.Timers.{has_id}
use Rattle.lvs_timer.specs.Seen.{TimersSeen}
use Rattle.lvs_timer.specs.DueLists.{AreOnce, in_order}
use Rattle.lvs_timer.proofs.Kept.{id_of, timers_armed, once_armed}
use Rattle.lvs_timer.proofs.timers.Timers.arm.Goals as goal

pub invariant_of-self : goal.invariant_of-self
invariant_of-self c =
    let x : Timer = record { deadline = c.args.deadline; id = c.args.id } in
    let due = c.self.inside.due in
    let fresh = c.self.inside.fresh.items in
    let new_id : find (has_id x.id) (in_order (due ++ fresh)) ≡ None = ap (λ (v : TimersSeen). find (has_id c.args.id) v.timers) c.self.view_is ∙ c.requires.new_id in
    let few = c.self.invariant.few in
    let places = c.self.invariant.places in
    let wide = c.push_reserved.ensures.capacity in
    let long = c.push_reserved.ensures.len in
    let some = c.requires.room in
    let spare = ap (λ (v : TimersSeen). v.spare) c.self.view_is in
    record {
      ids = subst (λ (ts : List Timer). AreOnce (due ++ ts)) (sym c.push_reserved.ensures.items) (once_armed x due fresh c.self.invariant.ids new_id);
      few = omega arith;
      places = omega arith;
    }

pub returns-clause-timers : goal.returns-clause-timers
returns-clause-timers c =
    let x : Timer = record { deadline = c.args.deadline; id = c.args.id } in
    let due = c.self.inside.due in
    let fresh = c.self.inside.fresh.items in
    let new_id : find (has_id x.id) (in_order (due ++ fresh)) ≡ None = ap (λ (v : TimersSeen). find (has_id c.args.id) v.timers) c.self.view_is ∙ c.requires.new_id in
    ap (λ (ts : List Timer). in_order (due ++ ts)) c.push_reserved.ensures.items ∙ timers_armed x due fresh c.self.invariant.ids new_id
    ∙ ap (λ (v : TimersSeen). insert_by id_of x v.timers) c.self.view_is
