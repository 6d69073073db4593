use Rattle.lvs_core.proofs.Taken.{agree_after}
use Rattle.lvs_core.proofs.stepping.answer.Goals as goal

pub returns-clause-agree : goal.returns-clause-agree
returns-clause-agree g c =
    agree_after g.W.Whole.whole c.args.item c.args.board.now c.take_item.new.board c.take_acts.new.self c.args.buckets.now c.take_item.new.buckets c.requires.agree c.requires.in_range c.in_ok-take_item.ensures.taken c.take_acts.ensures.rest c.in_ok-take_item.ensures.each c.take_item.ensures.length
