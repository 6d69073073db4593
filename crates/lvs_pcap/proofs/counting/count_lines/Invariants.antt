use Rattle.std.proofs.Common.{◌≡◌, ◌+◌, ◌-◌, ◌^◌, ◌≤◌, drop, length, flat_map}
use Rattle.std.specs.Prelude.{min}
use Rattle.lvs_model.specs.Plans.{items_of_line}
use Rattle.lvs_pcap.proofs.counting.count_lines.Given as goal

abbrev pub invariant-loop-line : goal.invariant-loop-line
invariant-loop-line l = record {
  so_far : min (l.count + length (flat_map items_of_line (drop l.line-index l.lines))) (2 ^ 64 - 1) ≡ min (length (flat_map items_of_line l.lines)) (2 ^ 64 - 1);
  small : l.count ≤ 2 ^ 64 - 1;
}
