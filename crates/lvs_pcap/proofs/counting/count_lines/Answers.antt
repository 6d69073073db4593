use Rattle.std.proofs.Common.{◌-◌, ◌^◌, length, flat_map, arith}
use Rattle.lvs_model.specs.Plans.{items_of_line}
use Rattle.lvs_pcap.proofs.CountLemmas.{all_counted}
use Rattle.lvs_pcap.proofs.counting.count_lines.Goals as goal

pub returns : goal.returns
returns c =
    all_counted items_of_line c.loop-line.count (2 ^ 64 - 1) (length (flat_map items_of_line c.args.lines.now)) c.loop-line.line-index c.args.lines.now c.loop-line.invariant.small (omega arith) c.loop-line.invariant.so_far
