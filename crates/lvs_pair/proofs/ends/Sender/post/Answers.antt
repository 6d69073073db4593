use Rattle.lvs_pair.proofs.Relays.{posts_by, fills_by}
use Rattle.lvs_pair.proofs.ends.Sender.post.Goals as goal

pub push_as-requires-clause-rule : goal.push_as-requires-clause-rule
push_as-requires-clause-rule g c = (posts_by _ _ _ _ c.self.invariant.1, fills_by _ _ c.self.invariant.1)
