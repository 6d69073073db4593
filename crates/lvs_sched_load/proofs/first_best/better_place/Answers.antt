use Rattle.std.proofs.Common.{sym, ◌∙◌}
use Rattle.lvs_sched_load.proofs.Ranks.{ranks}
use Rattle.lvs_sched_load.proofs.Steps.{taken_first_at, taken_at}
use Rattle.lvs_sched_load.specs.Orders.{is_better}
use Rattle.lvs_sched_load.proofs.first_best.better_place.Goals as goal

pub returns-in_default : goal.returns-in_default
returns-in_default c =
    taken_at (is_better c.args.order) (ranks c.args.order) c.args.servers.now c.args.place c.in-Some.so_far _ c.requires.weighed c.requires.place c.if-not-server.false (sym c.is_better.ensures ∙ c.if-not-is_better.false) (rw c.in-Some.is at c.requires.best)

pub returns-in_default-2 : goal.returns-in_default-2
returns-in_default-2 c =
    taken_first_at (is_better c.args.order) (ranks c.args.order) c.args.servers.now c.args.place _ c.requires.place c.if-not-server.false (rw c.in_default.is at c.requires.best)
