use Rattle.std.proofs.Common.{◌≡◌, ◌++◌}
use Rattle.std.specs.Prelude.{replicate}
use Rattle.lvs_pair.specs.Acting.{WaitsForRoom}
use Rattle.lvs_pair.proofs.outbox.hand_in_copies.Given as goal

abbrev pub invariant-loop-copy : goal.invariant-loop-copy
invariant-loop-copy g l = record {
  relay : l.sender.relay ≡ l.fn.sender.relay;
  order : l.sender.posted ++ l.waiting.items ≡ (l.fn.sender.posted ++ l.fn.waiting.items) ++ replicate l._copy l.message;
  room : WaitsForRoom l.relay.capacity l.sender.posted l.waiting.items;
}
