use Rattle.lvs_board.proofs.Left.{gone_state, gone_sound}
use Rattle.lvs_board.proofs.desk.Desk.remove_servers_of.Goals as goal

pub returns-clause-state : goal.returns-clause-state
returns-clause-state g c = gone_state g.W.Whole.whole c.args.self.now c.args.key c.take_all.new.dests c.requires.sound c.take_all.ensures.left

pub returns-clause-sound : goal.returns-clause-sound
returns-clause-sound g c = gone_sound g.W.Whole.whole c.args.self.now c.args.key c.take_all.new.dests c.requires.sound c.take_all.ensures.left c.take_all.ensures.apart
