use Rattle.std.proofs.Common.{◌≡◌, take}
use Rattle.lvs_entries.specs.Store.{HaveRoom, lists_of}
use Rattle.lvs_entries.proofs.chains.make_room.Given as goal

abbrev pub invariant-loop-chain : goal.invariant-loop-chain
invariant-loop-chain l = record {
  entries : lists_of l.chains ≡ lists_of l.initial.chains;
  ok : HaveRoom l.room (take l.chain-index l.chains);
}
