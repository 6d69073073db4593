use Rattle.std.proofs.Common.{◌≡◌, ◌≤◌, ◌+◌, drop, count_by}
use Rattle.lvs_summary.specs.Kinds.{sends_on}
use Rattle.lvs_summary.proofs.counting.count_forwarded_in.Given as goal

abbrev pub invariant-loop-act : goal.invariant-loop-act
invariant-loop-act l = record {
  so_far : l.count + count_by sends_on (drop l.act-index l.acts) ≡ count_by sends_on l.acts;
  few : l.count ≤ l.act-index;
}
