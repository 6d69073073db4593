use Rattle.lvs_board.proofs.Desks.{entered_state, entered_sound, can_come, can_be_made}
use Rattle.lvs_board.proofs.desk.Desk.enter_bound.Goals as goal

pub come_to_server-requires : goal.come_to_server-requires
come_to_server-requires g c = can_come g.W.Whole.whole c.args.self.now c.args.e.now c.requires.sound

pub come_to_template-requires : goal.come_to_template-requires
come_to_template-requires g c = can_be_made g.W.Whole.whole c.args.self.now c.args.e.now c.requires.sound

pub returns-clause-state : goal.returns-clause-state
returns-clause-state g c =
    entered_state g.W.Whole.whole c.args.self.now c.come_to_server.new.dests c.come_to_template.new.templates c.entering-self.result c.args.e.now c.args.d.now.id c.requires.sound c.requires.free c.requires.server
    (record { dests_are = c.come_to_server.ensures; templates_are = c.come_to_template.ensures.rows; change_is = c.entering-self.ensures })

pub returns-clause-sound : goal.returns-clause-sound
returns-clause-sound g c =
    entered_sound g.W.Whole.whole c.args.self.now c.come_to_server.new.dests c.come_to_template.new.templates c.entering-self.result c.args.e.now c.args.d.now.id c.requires.sound c.requires.free c.requires.server c.requires.id c.requires.room
    (record { dests_are = c.come_to_server.ensures; templates_are = c.come_to_template.ensures.rows; change_is = c.entering-self.ensures })
