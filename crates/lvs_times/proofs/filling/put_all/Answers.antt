use Rattle.lvs_times.proofs.Fresh.{new_id, new_key, below_next}
use Rattle.lvs_times.proofs.filling.put_all.Goals as goal

pub insert-requires-clause-new_id : goal.insert-requires-clause-new_id
insert-requires-clause-new_id c = rw (c.entry_of.ensures.id, c.in_ok-reserve.ensures.entries) (new_id c.loop-number.number c.loop-number.entries.entries c.loop-number.invariant)

pub insert-requires-clause-new_key : goal.insert-requires-clause-new_key
insert-requires-clause-new_key c =
    rw c.in_ok-reserve.ensures.entries (new_key c.loop-number.number c.entry_of.result.key c.loop-number.entries.entries c.entry_of.ensures.client c.loop-number.invariant)

pub loop-number-preserved : goal.loop-number-preserved
loop-number-preserved c =
    rw (c.insert.ensures.entries, c.in_ok-reserve.ensures.entries)
    (below_next c.loop-number.number c.entry_of.result c.loop-number.entries.entries c.entry_of.ensures.id c.entry_of.ensures.client c.loop-number.invariant)
