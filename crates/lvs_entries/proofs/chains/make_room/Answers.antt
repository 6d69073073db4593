use Rattle.std.proofs.Common.{◌∙◌, add-one, arith}
use Rattle.lvs_entries.proofs.Rooms.{lists_set, room_set}
use Rattle.lvs_entries.proofs.chains.make_room.Goals as goal

pub returns-in_err-reserve-clause-entries : goal.returns-in_err-reserve-clause-entries
returns-in_err-reserve-clause-entries c =
    lists_set c.loop-chain.chains c.loop-chain.chain-index c.chain-item.result c.reserve.new.self (omega arith) c.in_err-reserve.ensures.entries ∙ c.loop-chain.invariant.entries

pub loop-chain-preserved : goal.loop-chain-preserved
loop-chain-preserved c = record {
  entries = lists_set c.loop-chain.chains c.loop-chain.chain-index c.chain-item.result c.reserve.new.self (omega arith) c.in_ok-reserve.ensures.entries ∙ c.loop-chain.invariant.entries;
  ok = rw add-one (room_set c.args.room c.loop-chain.chains c.loop-chain.chain-index c.reserve.new.self (omega arith) c.in_ok-reserve.ensures.ok c.loop-chain.invariant.ok);
}
