use Rattle.std.proofs.Common.{sym, ◌∙◌, ap}
use Rattle.std.specs.List.{find}
use Rattle.lvs_sched_turn.proofs.Offers.{weighs, taken_now, taken_later, none_reached}
use Rattle.lvs_sched_turn.proofs.weighted.pick_wrr.Goals as goal

pub returns-in-Some-clause-pick : goal.returns-in-Some-clause-pick
returns-in-Some-clause-pick c =
    c.turn.ensures.pick ∙ taken_now c.args.servers.now c.args.cursor.now c.in-Some.place (c.in-Some.ensures.found.0, ap (find (weighs c.args.cursor.now.cw)) (sym c.place_after-start.ensures.after) ∙ c.in-Some.ensures.found.1)

pub returns-in-None-clause-pick : goal.returns-in-None-clause-pick
returns-in-None-clause-pick c =
    c.pick_in_next_round.ensures.pick ∙ taken_later c.args.servers.now c.args.cursor.now c.next_current_weight.result (ap (find (weighs c.args.cursor.now.cw)) (sym c.place_after-start.ensures.after) ∙ c.in-None.ensures.found) c.next_current_weight.ensures.number

pub returns-in-None-clause-none : goal.returns-in-None-clause-none
returns-in-None-clause-none c = none_reached c.pick_in_next_round.result c.args.servers.now c.next_current_weight.result c.next_current_weight.ensures.reached c.pick_in_next_round.ensures.none
