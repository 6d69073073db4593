use Rattle.std.proofs.Common.{◌≡◌, map, sym, ◌∙◌, ap, subst, arith, rules}
use Rattle.lvs_types.specs.declared.book.RoundPlan.{RoundPlan}
use Rattle.lvs_model.specs.Plans.{plan}
use Rattle.lvs_model.specs.ScriptLimits.{AreMoments}
use Rattle.lvs_check.specs.Kinds.{sizes_in}
use Rattle.lvs_check.specs.Queues.{whole_queue}
use Rattle.lvs_check.specs.Walks.{progress_of, items_left, steps_in, AreAllInRange}
use Rattle.lvs_check.proofs.HeadLemmas.{begun}
use Rattle.lvs_check.proofs.StepLemmas.{planned_range, planned_few}
use Rattle.lvs_check.proofs.walk.Walk.begin_round.Goals as goal

pub returns-clause-begun : goal.returns-clause-begun
returns-clause-begun c =
    let lists : c.in_ok-self.field-0.items ≡ map whole_queue c.in_ok-plan.plan.lists = c.in_ok-self.ensures ∙ ap (map whole_queue) c.into_vec.ensures in
    let shown : c.from.result.items ≡ c.in_ok-plan.plan.shown = search rules in
    begun (sizes_in c.args.sizes) (progress_of c.args.self.now) c.args.round.now c.args.rounds.now c.in_ok-plan.plan c.in_ok-step.field-0 c.step.new.self.state c.in_ok-self.field-0.items c.from.result.items c.none.result c.in_ok-plan.ensures c.in_ok-step.ensures.ok lists shown c.none.ensures

pub returns-clause-fit : goal.returns-clause-fit
returns-clause-fit c =
    let round = c.args.round.now in
    let workers = c.args.sizes.workers in
    let buckets = c.args.sizes.buckets in
    let lists : c.in_ok-self.field-0.items ≡ map whole_queue (plan round workers buckets).lists =
    c.in_ok-self.ensures ∙ ap (map whole_queue) (c.into_vec.ensures ∙ ap (λ (p : RoundPlan). p.lists) c.in_ok-plan.ensures) in
    let moments = subst AreMoments c.requires.next c.requires.fit.moments in
    record {
      moments = moments.1;
      in_range = subst AreAllInRange (sym lists) (planned_range round workers buckets);
      number = omega (arith, c.requires.fit.number, c.in_ok-step.ensures.steps);
      place = omega arith;
      young = omega (arith, c.requires.fit.young, c.in_ok-step.ensures.steps, ap items_left lists, ap steps_in c.requires.next, planned_few round workers buckets c.requires.good.few_workers c.requires.good.few_buckets);
    }
