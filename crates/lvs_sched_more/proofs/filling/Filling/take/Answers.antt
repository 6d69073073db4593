use Rattle.std.proofs.Common.{rules, arith, length-set}
use Rattle.lvs_sched_more.proofs.FreeSlots.{first_is_free, taken_free, taken_own}
use Rattle.lvs_sched_more.proofs.filling.Filling.take.Goals as goal

pub returns-clause-taken : goal.returns-clause-taken
returns-clause-taken c =
    let first = first_is_free c.args.self.now.slots c.preferred.result c.requires.filling.number c.preferred.ensures.within (omega (arith, c.requires.filling.unused, c.requires.free)) in
    let free = rw (← c.first_free-slot.ensures.value) at first in
    let own = taken_own c.args.self.now.slots c.first_free-slot.result c.args.place (omega arith) free.free in
    omega (arith, own, c.requires.taken)

pub returns-clause-filling : goal.returns-clause-filling
returns-clause-filling c =
    let first = first_is_free c.args.self.now.slots c.preferred.result c.requires.filling.number c.preferred.ensures.within (omega (arith, c.requires.filling.unused, c.requires.free)) in
    let free = rw (← c.first_free-slot.ensures.value) at first in
    let fewer = taken_free c.args.self.now.slots c.first_free-slot.result c.args.place (omega arith) free.free in
    record { number = search (rules, length-set); unused = omega (arith, fewer, c.requires.filling.unused) }
