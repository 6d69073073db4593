use Rattle.lvs_model.specs.State.{initial}
use Rattle.lvs_core.proofs.Begun.{agree_initial, own_state}
use Rattle.lvs_core.proofs.Joined.{state_is}
use Rattle.lvs_core.proofs.director.Core.new.Goals as goal

pub invariant_of-result : goal.invariant_of-result
invariant_of-result c =
    own_state c.in_ok-board.board c.in_ok-buckets.buckets.items (initial c.args.local c.args.buckets)
    (agree_initial c.args.local c.args.buckets c.in_ok-board.board c.in_ok-buckets.buckets.items c.requires.some c.requires.few (c.in_ok-board.ensures.stands c.args.buckets) c.in_ok-board.ensures.book c.in_ok-board.ensures.steps (c.in_ok-buckets.ensures.each c.args.local) c.in_ok-buckets.ensures.count)

pub returns-clause-state : goal.returns-clause-state
returns-clause-state c =
    state_is c.in_ok-board.board c.in_ok-buckets.buckets.items (initial c.args.local c.args.buckets)
    (agree_initial c.args.local c.args.buckets c.in_ok-board.board c.in_ok-buckets.buckets.items c.requires.some c.requires.few (c.in_ok-board.ensures.stands c.args.buckets) c.in_ok-board.ensures.book c.in_ok-board.ensures.steps (c.in_ok-buckets.ensures.each c.args.local) c.in_ok-buckets.ensures.count)
