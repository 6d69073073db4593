use Rattle.std.proofs.Common.{◌≡◌, ◌+◌, ◌-◌, ◌^◌, ◌≤◌, drop}
use Rattle.std.specs.Prelude.{min}
use Rattle.lvs_model.specs.ScriptLimits.{items_in}
use Rattle.lvs_pcap.proofs.counting.count_rounds.Given as goal

abbrev pub invariant-loop-round : goal.invariant-loop-round
invariant-loop-round l = record {
  so_far : min (l.count + items_in (drop l.round-index l.rounds)) (2 ^ 64 - 1) ≡ min (items_in l.rounds) (2 ^ 64 - 1);
  small : l.count ≤ 2 ^ 64 - 1;
}
