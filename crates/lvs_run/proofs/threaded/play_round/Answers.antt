use Rattle.std.proofs.Common.{ap, arith}
use Rattle.lvs_types.specs.declared.book.RoundPlan.{RoundPlan}
use Rattle.lvs_shared.specs.Openings.{count_items}
use Rattle.lvs_run.proofs.ActCounts.{few_acts}
use Rattle.lvs_run.proofs.CrewLemmas.{played_round}
use Rattle.lvs_run.proofs.PlanLemmas.{timeless_plan, plan_lists, plan_items}
use Rattle.lvs_run.proofs.threaded.play_round.Goals as goal

pub play-requires-clause-timeless : goal.play-requires-clause-timeless
play-requires-clause-timeless g c κs within = rw c.in_ok-plan.ensures (timeless_plan c.args.round.now c.args.crew.now.workers c.args.crew.now.buckets)

pub play-requires-clause-many : goal.play-requires-clause-many
play-requires-clause-many g c =
    rw c.in_ok-plan.ensures (omega (arith, plan_lists c.args.round.now c.args.crew.now.workers c.args.crew.now.buckets, c.requires.crew.crew.few_workers))

pub play-requires-clause-some : goal.play-requires-clause-some
play-requires-clause-some g c κs within =
    rw c.in_ok-plan.ensures (omega (arith, plan_lists c.args.round.now c.args.crew.now.workers c.args.crew.now.buckets, c.requires.crew.crew.some_workers))

pub play-requires-clause-young : goal.play-requires-clause-young
play-requires-clause-young g c =
    omega (
      arith,
      c.in_ok-tick.ensures.steps,
      c.requires.young,
      ap (λ (p : RoundPlan). count_items p.lists) c.in_ok-plan.ensures,
      plan_items c.args.round.now c.args.crew.now.workers c.args.crew.now.buckets c.requires.crew.crew.few_workers c.requires.crew.crew.few_buckets,
    )

pub returns-clause-few : goal.returns-clause-few
returns-clause-few g c =
    omega (
      arith,
      c.in_ok-tick.ensures.steps,
      c.in_ok-core.ensures.steps,
      few_acts c.tick.new.core.state c.in_ok-core.core.state c.in_ok-plan.plan c.in_ok-core.book c.in_ok-core.ensures.sound,
      ap (λ (p : RoundPlan). count_items p.lists) c.in_ok-plan.ensures,
      plan_items c.args.round.now c.args.crew.now.workers c.args.crew.now.buckets c.requires.crew.crew.few_workers c.requires.crew.crew.few_buckets,
    )

pub returns-clause-played : goal.returns-clause-played
returns-clause-played g c = played_round c.args.crew.now.workers c.args.crew.now.buckets c.args.number c.args.round.now c.args.core.state c.tick.new.core.state c.in_ok-core.core.state c.in_ok-plan.plan c.in_ok-core.book c.in_ok-book.field-0 c.in_ok-tick.ensures.state c.in_ok-plan.ensures c.in_ok-core.ensures.number c.in_ok-core.ensures.sound c.in_ok-core.ensures.whole c.in_ok-book.ensures
