use Rattle.std.proofs.Common.{◌≡◌, ◌≤◌, ◌+◌, drop, count_by}
use Rattle.lvs_model.specs.Clock.{is_released}
use Rattle.lvs_flat.proofs.clock.count_free.Given as goal

abbrev pub invariant-loop-d : goal.invariant-loop-d
invariant-loop-d l = record {
  so_far : l.count + count_by (is_released l.entries l.templates) (drop l.d-index l.dests) ≡ count_by (is_released l.entries l.templates) l.dests;
  few : l.count ≤ l.d-index;
}
