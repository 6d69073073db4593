use Rattle.std.proofs.Common.{◌≡◌, ◌*◌, ◌^◌, ◌≤◌, take, sum_by}
use Rattle.lvs_types.specs.declared.dest.Candidate.{Candidate}
use Rattle.lvs_sched_more.proofs.weights.total_weight.Given as goal

abbrev pub invariant-loop-server : goal.invariant-loop-server
invariant-loop-server l = record {
  so_far : l.total ≡ sum_by (λ (server : Candidate). server.weight) (take l.server-index l.servers);
  small : l.total ≤ l.server-index * 2 ^ 32;
}
