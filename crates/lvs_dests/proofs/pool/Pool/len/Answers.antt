use Rattle.std.proofs.Common.{◌∙◌}
use Rattle.lvs_dests.proofs.All.{count_rows}
use Rattle.lvs_dests.proofs.pool.Pool.len.Goals as goal

pub returns : goal.returns
returns c = c.len.ensures ∙ count_rows c.args.self.now.slab.slots
