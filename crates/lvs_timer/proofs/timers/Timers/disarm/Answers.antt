use Rattle.std.proofs.Common.{◌∙◌, ◌==◌, not, ap, arith, rules}
use Rattle.std.specs.List.{find}
use Rattle.std.proofs.lemmas.Bool.Decides.{nat_tests}
use Rattle.std.proofs.lemmas.Fn.{filter_same}
use Rattle.lvs_model.specs.Lists.{without}
use Rattle.lvs_timer.specs.declared.timer.Timer.{Timer}
use Rattle.lvs_timer.specs.Timers.{has_id}
use Rattle.lvs_timer.specs.Seen.{TimersSeen}
use Rattle.lvs_timer.proofs.Kept.{same_in_due, once_in_due, timers_without, once_without}
use Rattle.lvs_timer.proofs.timers.Timers.disarm.Goals as goal

pub take-requires-clause-same : goal.take-requires-clause-same
take-requires-clause-same c =
    let x : Timer = record { deadline = c.args.deadline; id = c.args.id } in
    same_in_due x c.self.inside.due c.self.inside.fresh.items c.self.invariant.ids (ap (λ (v : TimersSeen). find (has_id c.args.id) v.timers) c.self.view_is ∙ c.requires.armed)

pub take-requires-clause-once : goal.take-requires-clause-once
take-requires-clause-once c =
    let x : Timer = record { deadline = c.args.deadline; id = c.args.id } in once_in_due x c.self.inside.due c.self.inside.fresh.items c.self.invariant.ids

pub invariant_of-self : goal.invariant_of-self
invariant_of-self c =
    let x : Timer = record { deadline = c.args.deadline; id = c.args.id } in
    let retained = filter_same _ (λ (t : Timer). not (t.id == c.args.id)) _ (λ x b q says. search (rules, nat_tests)) _ _ c.retain.ensures.filtered in
    let few = c.self.invariant.few in
    let places = c.self.invariant.places in
    let wide = c.retain.ensures.capacity in
    let less = c.retain.ensures.bound in
    record {
      ids = once_without x c.self.inside.due c.self.inside.fresh.items c.self.invariant.ids c.args.id c.take.new.self c.retain.new.self.items c.take.ensures retained;
      few = omega arith;
      places = omega arith;
    }

pub returns-clause-timers : goal.returns-clause-timers
returns-clause-timers c =
    let x : Timer = record { deadline = c.args.deadline; id = c.args.id } in
    let retained = filter_same _ (λ (t : Timer). not (t.id == c.args.id)) _ (λ x b q says. search (rules, nat_tests)) _ _ c.retain.ensures.filtered in
    timers_without x c.self.inside.due c.self.inside.fresh.items c.self.invariant.ids c.args.id c.take.new.self c.retain.new.self.items c.take.ensures retained
    ∙ ap (λ (v : TimersSeen). without (has_id c.args.id) v.timers) c.self.view_is
