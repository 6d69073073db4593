use Rattle.lvs_board.proofs.Left.{cleared_state, cleared_sound}
use Rattle.lvs_board.proofs.desk.Desk.remove_all_servers.Goals as goal

pub returns-clause-ok : goal.returns-clause-ok
returns-clause-ok g c = cleared_state g.W.Whole.whole c.args.self.now c.remove_all.new.self c.requires.sound c.remove_all.ensures.rows

pub returns-clause-sound : goal.returns-clause-sound
returns-clause-sound g c = cleared_sound g.W.Whole.whole c.args.self.now c.remove_all.new.self c.requires.sound c.remove_all.ensures.rows c.remove_all.ensures.well_formed.ids
