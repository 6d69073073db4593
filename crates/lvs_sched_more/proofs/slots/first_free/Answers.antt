use Rattle.lvs_sched_more.proofs.FreeSlots.{found_behind, found_before}
use Rattle.lvs_sched_more.proofs.slots.first_free.Goals as goal
use Rattle.std.proofs.Common.{rules}

pub returns-in-Some-clause-value : goal.returns-in-Some-clause-value
returns-in-Some-clause-value c = found_behind c.args.slots.now c.args.start c.in-Some.steps c.requires.number c.requires.start (search rules)

pub returns-in-None-clause-value : goal.returns-in-None-clause-value
returns-in-None-clause-value c = rw c.unwrap_or.ensures (found_before c.args.slots.now c.args.start c.first_free_of-in-None.result c.requires.number c.requires.start (search rules) (search rules))
