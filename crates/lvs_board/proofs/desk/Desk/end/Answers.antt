use Rattle.lvs_board.proofs.Desks.{end_state, end_sound, end_free, can_leave, can_lessen}
use Rattle.lvs_board.proofs.desk.Desk.end.Goals as goal

pub leave_server-requires : goal.leave_server-requires
leave_server-requires g c = can_leave g.W.Whole.whole c.args.self.now c.args.e.now c.requires.sound c.requires.holds

pub leave_template-requires : goal.leave_template-requires
leave_template-requires g c = can_lessen g.W.Whole.whole c.args.self.now c.args.e.now c.requires.sound c.requires.holds

pub returns-clause-state : goal.returns-clause-state
returns-clause-state g c = end_state g.W.Whole.whole c.args.self.now c.leave_server.new.dests c.leave_template.new.templates c.ending-self.result c.args.e.now c.requires.sound c.requires.holds (c.leave_server.ensures, c.leave_template.ensures.rows, c.ending-self.ensures)

pub returns-clause-sound : goal.returns-clause-sound
returns-clause-sound g c = end_sound g.W.Whole.whole c.args.self.now c.leave_server.new.dests c.leave_template.new.templates c.ending-self.result c.args.e.now c.requires.sound c.requires.holds (c.leave_server.ensures, c.leave_template.ensures.rows, c.ending-self.ensures)

pub returns-clause-free : goal.returns-clause-free
returns-clause-free g c = end_free g.W.Whole.whole c.args.self.now c.ending-self.result c.args.e.now c.requires.holds c.ending-self.ensures
