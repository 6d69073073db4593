use Rattle.lvs_dests.proofs.Trashed.{trashed_next}
use Rattle.lvs_dests.proofs.pool.Pool.collect_trash.Goals as goal

pub loop-key-preserved : goal.loop-key-preserved
loop-key-preserved c =
    trashed_next c.args.self.now.slab.slots c.loop-key.key c.loop-key.ids.items c.append.new.ids.items c.trashed_at.result c.loop-key.invariant c.trashed_at.ensures c.in_ok-append.ensures
