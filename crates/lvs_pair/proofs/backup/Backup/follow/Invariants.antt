use Rattle.std.proofs.Common.{◌≡◌}
use Rattle.lvs_pair.specs.Learning.{HasLearnt}
use Rattle.lvs_pair.specs.Pairing.{items_of}
use Rattle.lvs_pair.proofs.backup.Backup.follow.Given as goal

abbrev pub invariant-loop : goal.invariant-loop
invariant-loop g l = record {
  relay : l.receiver.relay ≡ l.relay.id;
  learnt : HasLearnt l.initial.self.core.state (items_of l.receiver.taken) l.self;
}
