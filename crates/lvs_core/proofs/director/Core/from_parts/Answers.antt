use Rattle.lvs_core.proofs.Begun.{own_state}
use Rattle.lvs_core.proofs.Joined.{state_is}
use Rattle.lvs_core.proofs.director.Core.from_parts.Goals as goal

pub invariant_of-result : goal.invariant_of-result
invariant_of-result c = own_state c.args.board c.args.buckets.items c.requires.0 c.requires.1

pub returns-clause-state : goal.returns-clause-state
returns-clause-state c = state_is c.args.board c.args.buckets.items
