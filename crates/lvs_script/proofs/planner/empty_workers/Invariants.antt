use Rattle.std.proofs.Common.{◌≡◌}
use Rattle.lvs_script.specs.Planning.{lists_in, empty_lists}
use Rattle.lvs_script.proofs.planner.empty_workers.Given as goal

abbrev pub invariant-loop : goal.invariant-loop
invariant-loop l = lists_in l.lists ≡ (empty_lists l.counter).workers
