use Rattle.std.proofs.Common.{◌-◌, ◌^◌, arith}
use Rattle.lvs_model.specs.ScriptLimits.{items_in}
use Rattle.lvs_pcap.proofs.CountLemmas.{all_rounds}
use Rattle.lvs_pcap.proofs.counting.count_rounds.Goals as goal

pub returns : goal.returns
returns c =
    all_rounds c.loop-round.count (2 ^ 64 - 1) (items_in c.args.rounds.now) c.loop-round.round-index c.args.rounds.now c.loop-round.invariant.small (omega arith) c.loop-round.invariant.so_far
