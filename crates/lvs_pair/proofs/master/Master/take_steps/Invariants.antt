use Rattle.std.proofs.Common.{◌≡◌, ◌+◌, ◌≤◌, take}
use Rattle.lvs_pair.specs.Acting.{coming, HasActed, IsOutboxOf}
use Rattle.lvs_pair.proofs.master.Master.take_steps.Given as goal

abbrev pub invariant-loop-step : goal.invariant-loop-step
invariant-loop-step g l = record {
  of : IsOutboxOf l.relay l.self.outbox;
  acted : HasActed l.initial.self.core.state (coming l.initial.self.outbox) (take l.step-index l.steps) l.self;
  counts : l.self.outbox.counts ≡ l.initial.self.outbox.counts;
  young : l.self.core.steps ≤ l.initial.self.core.steps + l.step-index;
}
