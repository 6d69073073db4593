use Rattle.std.proofs.Common.{sym, subst}
use Rattle.lvs_pair.specs.Sides.{IsBoth}
use Rattle.lvs_pair.proofs.Relays.{merges_by, holds_left_by}
use Rattle.lvs_pair.proofs.line.Relay.finish.Goals as goal

pub absorb-requires-clause-rule : goal.absorb-requires-clause-rule
absorb-requires-clause-rule c = merges_by _ _ _ _ c.sender.invariant.1 c.receiver.invariant.1

pub learn_as-requires-clause-rule : goal.learn_as-requires-clause-rule
learn_as-requires-clause-rule c = holds_left_by _ _ (subst IsBoth (sym c.absorb.ensures.rule) tt)
