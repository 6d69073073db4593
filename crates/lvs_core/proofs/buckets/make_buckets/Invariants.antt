use Rattle.std.proofs.Common.{◌≡◌, length}
use Rattle.lvs_types.specs.declared.addr.Addr.{Addr}
use Rattle.lvs_model.specs.State.{initial}
use Rattle.lvs_core.specs.Agree.{AreBuckets}
use Rattle.lvs_core.proofs.buckets.make_buckets.Given as goal

abbrev pub invariant-loop-number : goal.invariant-loop-number
invariant-loop-number l = record {
  each : (local : Addr) → AreBuckets (initial local l.count) 0 l.buckets.items;
  count : length l.buckets.items ≡ l.number;
}
