use Rattle.std.proofs.Common.{sym}
use Rattle.lvs_sched_turn.proofs.Turns.{after_place, through_place, after_nobody, through_nobody}
use Rattle.lvs_sched_turn.proofs.place.place_after.Goals as goal

pub returns-in-Some-clause-after : goal.returns-in-Some-clause-after
returns-in-Some-clause-after c = after_place c.args.servers.now c.args.cursor.now _ (sym c.in-Some.ensures)

pub returns-in-Some-clause-through : goal.returns-in-Some-clause-through
returns-in-Some-clause-through c = through_place c.args.servers.now c.args.cursor.now _ (sym c.in-Some.ensures)

pub returns-in-None-clause-after : goal.returns-in-None-clause-after
returns-in-None-clause-after c = after_nobody c.args.servers.now c.args.cursor.now (sym c.in-None.ensures)

pub returns-in-None-clause-through : goal.returns-in-None-clause-through
returns-in-None-clause-through c = through_nobody c.args.servers.now c.args.cursor.now (sym c.in-None.ensures)
