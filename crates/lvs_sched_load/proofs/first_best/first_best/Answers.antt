use Rattle.std.proofs.Common.{◌≡◌, length, subst, arith}
use Rattle.lvs_sched_load.proofs.Steps.{best_of_all, best_is_eligible, none_is_eligible}
use Rattle.lvs_sched_load.specs.Best.{IsBest}
use Rattle.lvs_sched_load.specs.Orders.{is_better}
use Rattle.lvs_sched_load.proofs.first_best.first_best.Goals as goal

-- what is best so far is best of all at the end
at_end : (c : goal.After-loop-place) → IsBest (is_better c.args.order) c.args.servers.now (length c.args.servers.now) c.loop-place.best
at_end c =
    let all : c.loop-place.place ≡ length c.args.servers.now = omega arith in
    subst (λ n. IsBest (is_better c.args.order) c.args.servers.now n c.loop-place.best) all c.loop-place.invariant

pub returns : goal.returns
returns c = record {
  pick = best_of_all (is_better c.args.order) c.args.servers.now c.loop-place.best (at_end c);
  some = best_is_eligible (is_better c.args.order) c.args.servers.now c.loop-place.best (at_end c);
  none = none_is_eligible (is_better c.args.order) c.args.servers.now c.loop-place.best (at_end c);
}
