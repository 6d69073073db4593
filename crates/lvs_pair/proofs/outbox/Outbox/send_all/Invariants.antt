use Rattle.std.proofs.Common.{◌≡◌, ◌++◌, drop}
use Rattle.lvs_model.specs.Pairs.{delivered}
use Rattle.lvs_pair.specs.Acting.{handed, coming, IsOutboxOf}
use Rattle.lvs_pair.specs.Pairing.{counts_after}
use Rattle.lvs_pair.proofs.outbox.Outbox.send_all.Given as goal

abbrev pub invariant-loop-message : goal.invariant-loop-message
invariant-loop-message g l = record {
  of : IsOutboxOf l.relay l.self;
  relay : l.self.sender.relay ≡ l.fn.self.sender.relay;
  counts : l.self.counts ≡ l.fn.self.counts;
  handed : handed l.self ++ delivered (drop l.message-index l.messages) (coming l.self) ≡ handed l.fn.self ++ delivered l.messages (coming l.fn.self);
  coming : counts_after (drop l.message-index l.messages) (coming l.self) ≡ counts_after l.messages (coming l.fn.self);
}
