use Rattle.std.proofs.Common.{◌≡◌, ◌≤◌, ◌+◌, drop, count_by}
use Rattle.lvs_summary.specs.Kinds.{takes_packet}
use Rattle.lvs_summary.proofs.counting.count_packets_in.Given as goal

abbrev pub invariant-loop-act : goal.invariant-loop-act
invariant-loop-act l = record {
  so_far : l.count + count_by takes_packet (drop l.act-index l.acts) ≡ count_by takes_packet l.acts;
  few : l.count ≤ l.act-index;
}
