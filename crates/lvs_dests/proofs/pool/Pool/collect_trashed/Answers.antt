use Rattle.lvs_dests.proofs.Trashed.{rows_next}
use Rattle.lvs_dests.proofs.pool.Pool.collect_trashed.Goals as goal

pub loop-key-preserved : goal.loop-key-preserved
loop-key-preserved c =
    rows_next c.args.self.now.slab.slots c.loop-key.key c.loop-key.rows.items c.append.new.rows.items c.trashed_row.result c.loop-key.invariant c.trashed_row.ensures c.in_ok-append.ensures
