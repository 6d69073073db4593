use Rattle.std.proofs.Common.{◌≡◌, ◌≤◌, ◌++◌, drop, length, vec_len, vec_capacity}
use Rattle.lvs_model.specs.Counts.{candidates}
use Rattle.lvs_rules.specs.Views.{dests_in, entries_in}
use Rattle.lvs_flat.proofs.dests.list_candidates.Given as goal

abbrev pub invariant-loop-d : goal.invariant-loop-d
invariant-loop-d l = record {
  so_far : l.found.items ++ candidates l.key (dests_in l.view.overload (drop l.d-index l.dests)) (entries_in l.view.ended l.entries) ≡ candidates l.key (dests_in l.view.overload l.dests) (entries_in l.view.ended l.entries);
  fewer : vec_len l.found ≤ l.d-index;
  room : length l.dests ≤ vec_capacity l.found;
}
