use Rattle.std.proofs.Common.{◌≡◌, ◌++◌, drop}
use Rattle.lvs_core.specs.Agree.{all_of}
use Rattle.lvs_core.proofs.buckets.gather.Given as goal

abbrev pub invariant-loop-bucket : goal.invariant-loop-bucket
invariant-loop-bucket l = l.all.items ++ all_of (drop l.bucket-index l.buckets) ≡ all_of l.buckets
