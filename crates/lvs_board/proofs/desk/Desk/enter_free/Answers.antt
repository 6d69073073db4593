use Rattle.lvs_board.proofs.Desks.{appended_state, appended_sound, appended_holds, can_be_made}
use Rattle.lvs_board.proofs.desk.Desk.enter_free.Goals as goal

pub come_to_template-requires : goal.come_to_template-requires
come_to_template-requires g c = can_be_made g.W.Whole.whole c.args.self.now c.args.e.now c.requires.sound

pub returns-clause-state : goal.returns-clause-state
returns-clause-state g c =
    appended_state g.W.Whole.whole c.args.self.now c.come_to_template.new.templates c.entering-self.result c.args.e.now c.requires.sound c.requires.free c.requires.unbound
    (record { templates_are = c.come_to_template.ensures.rows; change_is = c.entering-self.ensures })

pub returns-clause-sound : goal.returns-clause-sound
returns-clause-sound g c =
    appended_sound g.W.Whole.whole c.args.self.now c.come_to_template.new.templates c.entering-self.result c.args.e.now c.requires.sound c.requires.free c.requires.unbound c.requires.id c.requires.room
    (record { templates_are = c.come_to_template.ensures.rows; change_is = c.entering-self.ensures })

pub returns-clause-holds : goal.returns-clause-holds
returns-clause-holds g c =
    appended_holds g.W.Whole.whole c.args.self.now c.come_to_template.new.templates c.entering-self.result c.args.e.now c.requires.sound c.requires.free c.requires.id
    (record { templates_are = c.come_to_template.ensures.rows; change_is = c.entering-self.ensures })
