use Rattle.lvs_sched_turn.proofs.Offers.{turn_of_all}
use Rattle.std.proofs.Common.{◌∙◌}
use Rattle.lvs_sched_turn.proofs.weighted.pick_in_next_round.Goals as goal

pub returns-clause-pick : goal.returns-clause-pick
returns-clause-pick c = c.turn.ensures.pick ∙ turn_of_all c.args.servers.now c.in_ok-place.place c.args.weight c.in_ok-place.ensures.found
