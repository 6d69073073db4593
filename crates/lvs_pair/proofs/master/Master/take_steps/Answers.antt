use Rattle.std.proofs.Common.{◌∙◌, sym, take, arith}
use Rattle.lvs_pair.specs.Acting.{coming, IsOutboxOf, Stops, Takes}
use Rattle.lvs_pair.proofs.Acts.{acted_to, stopped_at}
use Rattle.lvs_pair.proofs.Answers.{err_of, ok_of}
use Rattle.lvs_pair.proofs.master.Master.take_steps.Goals as goal

pub returns-then-is_err-clause-led : goal.returns-then-is_err-clause-led
returns-then-is_err-clause-led g c = let steps = c.args.steps.now in let i = c.loop-step.step-index in
    let stopped = err_of (Stops c.loop-step.self c.take_step.new.self c.step-item.result) c.take_step.result (sym c.is_err.ensures.value ∙ c.if-is_err.true) c.take_step.ensures.stopped in
    (stopped_at _ _ steps i c.step-item.result _ _ c.loop-step-test.true c.step-item.is (stopped _ _ (take i steps) c.loop-step.invariant.acted), c.take_step.ensures.relay ∙ c.loop-step.invariant.of.relay)

pub loop-step-preserved : goal.loop-step-preserved
loop-step-preserved g c = let steps = c.args.steps.now in let i = c.loop-step.step-index in let went = sym c.is_err.ensures.value ∙ c.if-is_err.false in
    let taken = ok_of (Takes c.loop-step.self c.take_step.new.self c.step-item.result) c.take_step.result went c.take_step.ensures.acted in
    let more = c.take_step.ensures.steps in let so_far = c.loop-step.invariant.young in record {
      of = ok_of (IsOutboxOf c.args.relay.now c.take_step.new.self.outbox) c.take_step.result went c.take_step.ensures.of;
      acted = acted_to _ _ steps i c.step-item.result _ _ c.loop-step-test.true c.step-item.is (taken _ _ (take i steps) c.loop-step.invariant.acted);
      counts = c.take_step.ensures.counts ∙ c.loop-step.invariant.counts;
      young = omega arith;
    }
